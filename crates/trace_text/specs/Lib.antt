pub mod BadLine
pub mod Building
pub mod Input
pub mod Laws
pub mod Ordered
pub mod Parts
pub mod Reading
pub mod TraceText
