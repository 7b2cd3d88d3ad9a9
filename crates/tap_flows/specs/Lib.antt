pub mod Flow
pub mod FlowList
pub mod Flows
pub mod Heads
pub mod Laws
pub mod Nodes
pub mod Rings
