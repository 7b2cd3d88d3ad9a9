pub mod Places
pub mod Checks
pub mod Kept
pub mod Whole
pub mod Spells
pub mod FirstFault
pub mod Sound
pub mod AtPlaces
