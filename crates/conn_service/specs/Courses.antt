pub mod AnswerEnd
pub mod Serving
pub mod Cutting
