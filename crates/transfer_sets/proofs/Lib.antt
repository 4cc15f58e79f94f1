pub mod Readings
pub mod DueNumbers
mod DueLater
pub mod Followed
mod Worked
mod WorkedNext
mod WorkedMoves
mod BankLists
mod FirstMoments
mod NextMoments
mod DueIndexes
pub mod DueTrees
