pub mod NameEntries
pub mod Opening
