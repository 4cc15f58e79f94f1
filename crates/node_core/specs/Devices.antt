pub mod DeviceBanks
pub mod DevicesSeen
