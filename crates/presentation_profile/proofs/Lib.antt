pub mod OffersRead
pub mod ResultsRead
pub mod PpdusRead
pub mod Sizes
pub mod OffersWritten
pub mod UserWritten
pub mod PpdusWritten
pub mod Agreeing
mod Worked
mod WorkedPpdus
pub mod Transfers
