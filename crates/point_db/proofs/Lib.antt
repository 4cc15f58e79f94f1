pub mod AscendingSlots
pub mod WatchChanges
pub mod WatchLaws
mod Kept
mod Marks
mod Serials
mod Worked
