pub mod Rooms
pub mod KeptRules
pub mod Paths
pub mod Walks
pub mod Endings
pub mod Usable
pub mod Functions
pub mod Stretches
pub mod Masks
mod Gathered
mod Writes
mod Crowds
