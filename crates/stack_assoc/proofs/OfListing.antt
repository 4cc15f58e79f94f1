pub mod Listing
pub mod OneHeard
