pub mod LineText
pub mod PageLines
