pub mod Turned
pub mod Ended
pub mod Driven
