pub mod Specifications
pub mod Reads
pub mod Writes
pub mod Reports
pub mod TypesOf
