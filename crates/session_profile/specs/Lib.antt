pub mod Lengths
pub mod Parameters
pub mod Rules
pub mod Connections
pub mod Counts
pub mod Seen
pub mod Spdus
pub mod Writing
