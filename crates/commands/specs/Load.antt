pub mod Generated
pub mod Rows
pub mod Tallies
pub mod Summaries
