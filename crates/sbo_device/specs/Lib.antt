pub mod Moves
pub mod States
pub mod Holders
pub mod SameMoves
pub mod Banks
