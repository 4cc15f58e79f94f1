pub mod CallIn
pub mod Journals
pub mod Entries
