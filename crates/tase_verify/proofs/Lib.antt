pub mod FirstLines
pub mod Cutting
pub mod Watched
mod WorkedLinks
pub mod Taking
mod WorkedJournals
pub mod OfAssociation
