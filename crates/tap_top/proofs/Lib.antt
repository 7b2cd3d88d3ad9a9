pub mod Ended
pub mod Passing
pub mod Counted
pub mod Built
pub mod Promised
