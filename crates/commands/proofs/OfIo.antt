pub mod Leaving
pub mod Exchanging
pub mod Entries
pub mod Reading
pub mod Running
pub mod Printing
pub mod Filing
pub mod Plans
