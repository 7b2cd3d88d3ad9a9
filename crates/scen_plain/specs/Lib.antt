pub mod PlainRun
pub mod Reads
pub mod Chosen
