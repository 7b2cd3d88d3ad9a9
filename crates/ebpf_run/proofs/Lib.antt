pub mod Follow
pub mod Good
pub mod Runs
pub mod Decoded
