pub mod Kept
pub mod Worker
pub mod View
