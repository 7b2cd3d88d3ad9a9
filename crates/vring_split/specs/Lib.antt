pub mod Split
pub mod Good
pub mod Laws
