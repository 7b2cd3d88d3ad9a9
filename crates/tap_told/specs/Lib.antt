pub mod Devices
pub mod Told
pub mod Phases
pub mod Positions
pub mod Needs
pub mod Laws
