pub mod Names
pub mod Outside
pub mod Places
