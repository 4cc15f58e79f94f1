pub mod Growing
pub mod LoadRows
pub mod WrittenRows
pub mod LoadPast
pub mod LoadCalls
pub mod LoadLines
pub mod LoadWeights
pub mod Counted
pub mod SoFar
mod Worked
