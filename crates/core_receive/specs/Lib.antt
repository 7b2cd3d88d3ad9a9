pub mod Going
pub mod Ready
pub mod Moved
