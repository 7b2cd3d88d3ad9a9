pub mod Coming
pub mod Grows
pub mod Sights
pub mod Leads
pub mod Runs
pub mod Moments
