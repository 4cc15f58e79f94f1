pub mod Sizes
pub mod Fits
pub mod Fixed
pub mod Layered
mod Worked
