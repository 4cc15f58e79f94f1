pub mod Wishes
pub mod SlotState
pub mod Banks
pub mod Due
pub mod SlotMoves
pub mod Components
pub mod WishData
pub mod NextDue
pub mod DueIndex
pub mod DueTree
pub use Rattle.look_count.specs as LookCount
