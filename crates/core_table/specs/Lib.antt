pub mod Programs
pub mod Course
pub mod Sent
