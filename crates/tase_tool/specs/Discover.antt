pub mod Ending
pub mod Discovering
