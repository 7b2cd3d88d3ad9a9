pub mod Acted
pub mod Standing
pub mod Laws
