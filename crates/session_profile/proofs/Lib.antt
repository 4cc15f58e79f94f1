mod Worked
pub mod Lengths
pub mod Parameters
pub mod Rules
pub mod Connections
pub mod Spdus
pub mod Written
pub mod Counts
