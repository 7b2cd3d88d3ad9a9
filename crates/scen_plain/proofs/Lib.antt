pub mod SoundRuns
pub mod Traces
pub mod Rows
pub mod Given
mod Lists
mod Listing
mod Allowed
mod OnePhase
mod ManyPhases
