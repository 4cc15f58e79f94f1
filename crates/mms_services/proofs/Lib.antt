pub mod ShortWritten
pub mod CodedRead
pub mod ErrorsRead
pub mod IdentitiesRead
pub mod InitiatesRead
pub mod RejectsRead
pub mod ShortSpelled
mod WorkedNegotiations
mod WorkedWritten
pub mod PdusRead
pub mod NumberedRead
mod WorkedPdus
pub mod SpelledCodes
pub mod SpelledPdus
pub mod PdusWritten
pub mod OfAccess
pub mod OfNames
