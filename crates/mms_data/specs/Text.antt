pub mod Texts
pub mod NameIn
pub mod WordValue
pub mod WordFront
pub mod TextRead
pub mod DatumIn
