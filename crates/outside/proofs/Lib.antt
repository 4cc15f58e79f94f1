pub mod Calling
pub mod Writing
pub mod Reading
pub mod Buffering
pub mod OfLinks
pub mod OfNames
