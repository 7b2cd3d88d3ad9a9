pub mod Framed
pub mod Indexed
pub mod Placed
pub mod Held
pub mod Files
pub mod Told
pub mod Kept
pub mod Lending
