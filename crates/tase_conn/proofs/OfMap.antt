pub mod Apart
pub mod AskedLaws
pub mod RepliedLaws
pub mod ReportedLaws
pub mod ReadingLaws
pub mod AskedOn
pub mod Uncut
pub mod Closing
pub mod Adding
pub mod Passing
pub mod MessageOrder
pub mod LawfulMessages
pub mod Fronts
pub mod TurnsRead
pub mod TurnOrder
pub mod InTurn
pub mod Growing
pub mod Unrefused
pub mod Sized
pub mod Worked
pub mod WorkedStream
mod WorkedSets
mod WorkedReports
mod WorkedTypes
