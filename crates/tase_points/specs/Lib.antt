pub mod Points
pub mod Sample
pub mod Values
pub mod Layouts
pub mod Same
