pub mod Journals
pub mod Handed
