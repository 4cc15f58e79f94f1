pub mod LinkOctets
pub mod Terminals
pub mod Sends
pub mod Talks
pub mod Runs
pub mod Talking
