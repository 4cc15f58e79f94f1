pub mod Io
pub mod Words
pub mod Load
pub mod Files
