pub mod OrdersRefused
pub mod Given
pub mod Alone
pub mod Told
