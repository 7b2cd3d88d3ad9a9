pub mod Positions
pub mod Queue
pub mod Publication
pub mod Laws
pub mod Kept
