pub mod Queues
pub mod Told
pub mod Receive
pub mod Transmit
