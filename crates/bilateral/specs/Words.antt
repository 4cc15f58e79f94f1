pub mod Words
pub mod Devices
