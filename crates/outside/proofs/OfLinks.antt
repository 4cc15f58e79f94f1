pub mod NewLinks
pub mod Saying
pub mod Sent
