pub mod Names
pub mod Lines
pub mod Hearing
pub mod Listings
