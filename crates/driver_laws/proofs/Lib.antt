pub mod Bytes
pub mod Apart
pub mod Ground
pub mod Links
pub mod Walk
pub mod Posts
pub mod Stay
pub mod Read
