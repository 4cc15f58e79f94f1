pub mod JournalIn
pub mod LinkText
pub mod Cuts
pub mod Verifying
pub mod Watching
pub mod Reading
pub mod Association
