pub mod Bridge
pub mod Kept
pub mod Steps
pub mod Inside
pub mod Calls
pub mod Laws
pub mod Examples
