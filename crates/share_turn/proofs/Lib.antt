pub mod Owned
pub mod Views
pub mod Turning
pub mod Seating
pub mod Looking
pub mod Called
mod Others
