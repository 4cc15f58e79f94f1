pub mod Components
pub mod VisibleWords
pub mod Digits
pub mod Titles
