pub mod Meanings
pub mod Turns
pub mod Layers
pub mod Setting
pub mod Messages
