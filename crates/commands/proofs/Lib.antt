pub mod OfIo
pub mod OfWords
pub mod OfLoad
pub mod OfFiles
