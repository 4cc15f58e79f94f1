pub mod SentOut
pub mod Grows
pub mod Timely
pub mod EndsHeard
pub mod Flushed
pub mod Received
pub mod Begun
