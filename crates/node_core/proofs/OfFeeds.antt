pub mod SlotFeeds
pub mod Planned
pub mod WatchRoom
pub mod Indexes
