pub mod Watching
pub mod PeerAnswers
pub mod ItemTexts
pub mod Owns
pub mod Audits
pub mod Alike
