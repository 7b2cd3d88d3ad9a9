pub mod Output
pub mod Headline
pub mod Top
pub mod Course
