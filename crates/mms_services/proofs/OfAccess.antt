pub mod NamesSized
pub mod ReadSpecs
pub mod ReadLaws
pub mod WriteLaws
pub mod ReportLaws
pub mod SpecsWritten
pub mod TypesRead
pub mod TypesWritten
pub mod ReadWritten
pub mod WriteWritten
pub mod ReportWritten
pub mod SpelledAccess
mod WorkedAccess
mod WorkedServices
mod WorkedTypes
