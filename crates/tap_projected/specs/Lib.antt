pub mod Projected
pub mod Laws
