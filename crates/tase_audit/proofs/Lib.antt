pub mod Reversed
pub mod ViewsWatched
pub mod EntriesAnswered
pub mod ItemWords
pub mod Pairwise
pub mod RowsThere
pub mod OwnsSame
pub mod Ordinals
pub mod LawfulActs
pub mod LawfulItems
pub mod Audited
mod Worked
