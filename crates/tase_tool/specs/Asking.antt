pub mod Opening
pub mod Ending
pub mod Parts
