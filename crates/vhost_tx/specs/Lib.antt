pub mod Worker
pub mod Kept
pub mod Copying
