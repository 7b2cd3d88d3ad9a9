pub mod Area
pub mod Books
pub mod Posts
pub mod Harvests
pub mod Kept
