pub mod DeviceWrites
pub mod Shown
pub mod CallSorts
