pub mod Part
pub mod Tables
pub mod Runs
