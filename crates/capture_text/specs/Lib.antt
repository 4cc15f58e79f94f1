pub mod Captures
pub mod Pieces
