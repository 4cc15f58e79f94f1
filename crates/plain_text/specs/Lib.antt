pub mod Octets
pub mod Numbers
pub mod Escaped
pub mod Extends
pub mod Lines
pub mod Words
pub mod Lengths
