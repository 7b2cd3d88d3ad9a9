pub mod Fate
pub mod Refusals
pub mod Counters
pub mod Queue
pub mod Host
pub mod Laws
pub mod Memory
pub mod MemoryRoom
