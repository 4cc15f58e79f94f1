pub mod Retiring
pub mod Gathering
pub mod Starting
pub mod Accepting
pub mod Beginning
pub mod Serving
pub mod Rounds
