pub mod OutsideUse
pub mod Statuses
pub mod Saying
pub mod Runs
pub mod Inputs
pub mod Plans
