pub mod Calculation
pub mod Meaning
pub mod Machine
pub mod Laws
pub mod Step
