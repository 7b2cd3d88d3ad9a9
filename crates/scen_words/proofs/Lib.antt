pub mod Declared
pub mod Fitting
pub mod Kept
pub mod Rows
pub mod Spaced
