pub mod RisingReads
pub mod RisingLoop
pub mod ApdusRead
pub mod Sizes
pub mod WrittenApdus
pub mod Sequences
pub mod SequencesRead
pub mod SequencesBack
pub mod SequencesOf
pub mod SequencesWhole
mod Worked
mod WorkedSequences
