pub mod Since
pub mod Serving
pub mod Peers
