pub mod Fnv
pub mod FlowKey
pub mod Reply
pub mod End
