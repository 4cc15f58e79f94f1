pub mod Starting
pub mod Threading
