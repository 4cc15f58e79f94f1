pub mod SlotFeeds
pub mod Indexed
pub mod Concerned
