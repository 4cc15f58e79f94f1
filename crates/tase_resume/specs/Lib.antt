pub mod Bases
pub mod Warming
pub mod Recounted
pub mod Snapshots
pub mod Resuming
pub mod Turns
pub mod Reading
