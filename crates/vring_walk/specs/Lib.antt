pub mod Chain
pub mod Fetch
pub mod Fetched
pub mod Spread
pub mod Laws
pub mod Examples
pub mod Stretch
