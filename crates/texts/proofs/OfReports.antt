pub mod Told
pub mod SoFar
pub mod Unspaced
pub mod OutcomeRead
pub mod ReportParts
pub mod Worked
