pub mod Outs
pub mod Written
pub mod Harvested
