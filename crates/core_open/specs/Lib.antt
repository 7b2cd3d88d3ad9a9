pub mod Collected
pub mod Opening
