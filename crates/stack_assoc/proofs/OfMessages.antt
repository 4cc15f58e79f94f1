pub mod Exact
pub mod LayersRead
pub mod OneMeaning
pub mod Worked
pub mod OneMessage
