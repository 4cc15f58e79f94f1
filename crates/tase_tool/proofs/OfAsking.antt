pub mod Inputs
pub mod Faults
pub mod Told
pub mod Closed
pub mod Objects
