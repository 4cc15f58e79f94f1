pub mod Rising
pub mod Users
pub mod Requests
pub mod Responses
pub mod Apdus
pub mod Seen
pub mod Writing
pub mod Sequences
