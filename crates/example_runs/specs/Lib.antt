pub mod Play
pub mod Change
pub mod Texts
pub mod Runs
pub mod Verdicts
pub mod Small
