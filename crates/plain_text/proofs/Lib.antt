pub mod Parts
pub mod Decimal
pub mod Hex
pub mod Unescape
pub mod EscapedText
pub mod Extended
pub mod TextLengths
