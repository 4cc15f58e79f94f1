pub mod Opening
pub mod Courses
pub mod Serving
