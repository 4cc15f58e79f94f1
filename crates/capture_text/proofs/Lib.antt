pub mod Digits
pub mod LineEnds
pub mod Walking
mod Worked
