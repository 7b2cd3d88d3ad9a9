pub mod Bytes
pub mod Steps
pub mod Ends
pub mod Among
pub mod Queues
pub mod Runs
pub mod Usable
pub mod Heads
