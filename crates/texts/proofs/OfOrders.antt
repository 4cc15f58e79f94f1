pub mod PlainNames
pub mod Lines
