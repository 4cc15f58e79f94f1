pub mod Takes
pub mod Asked
pub mod Loaded
pub mod Ends
