pub mod Shown
pub mod Bare
pub mod Parts
