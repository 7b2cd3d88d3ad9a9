pub mod Running
pub mod Kept
pub mod Telling
pub mod Carried
pub mod Applying
