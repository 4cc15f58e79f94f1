pub mod Paired
pub mod Sent
