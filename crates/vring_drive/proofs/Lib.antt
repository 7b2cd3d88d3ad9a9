pub mod Freed
pub mod Written
pub mod Harvested
pub mod Whole
