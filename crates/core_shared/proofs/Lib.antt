mod Numbered
pub mod Kit
pub mod Taking
pub mod Knowing
pub mod Leaving
pub mod Named
pub mod Others
mod Stepping
