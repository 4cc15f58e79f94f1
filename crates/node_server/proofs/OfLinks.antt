pub mod Uses
pub mod SentSoFar
pub mod InTurn
pub mod Received
pub mod Left
pub mod Handled
pub mod Finished
pub mod Overflown
pub mod Begun
pub mod TurnsOn
pub mod Stopped
pub mod LeftClosed
mod WorkedTurns
