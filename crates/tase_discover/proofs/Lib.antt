pub mod Noting
pub mod Falling
pub mod Lines
pub mod Alike
pub mod Open
pub mod Held
pub mod Differing
pub mod ShortCalls
pub mod Rising
pub mod Paged
pub mod Typed
pub mod Apart
pub mod OfferedNames
pub mod TableNames
pub mod SelfListed
pub mod HeardListed
mod WorkedListings
