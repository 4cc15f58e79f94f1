pub mod Played
pub mod Reasons
pub mod Spared
pub mod Commands
pub mod Sharing
