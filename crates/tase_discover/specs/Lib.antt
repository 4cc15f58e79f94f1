pub mod Listings
pub mod Noted
pub mod Kept
pub mod Listers
pub mod Acts
pub mod Ends
pub mod SelfListings
pub mod HeardListings
pub use Rattle.asking_end.specs as AskingEnd
