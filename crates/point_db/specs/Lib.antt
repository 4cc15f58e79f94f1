pub mod Updates
pub mod Stored
pub mod WatchLists
