pub mod NameListsSized
pub mod NameListsRead
pub mod NameListsSpelled
pub mod SetsRead
pub mod SetsWritten
pub mod SpelledNames
mod WorkedNames
mod WorkedSets
