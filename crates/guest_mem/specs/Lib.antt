pub mod Memory
pub mod Blocks
pub mod Regions
pub mod Laws
pub mod Examples
