pub mod Declared
pub mod Phases
pub mod Laid
pub mod Runs
pub mod Generated
