pub mod Counts
pub mod Given
pub mod Listened
pub mod Seated
pub mod Accepted
pub mod Ordered
pub mod Joined
