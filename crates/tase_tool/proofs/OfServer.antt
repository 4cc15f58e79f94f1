pub mod Counted
pub mod Ends
pub mod Entries
pub mod Reasons
pub mod Courses
