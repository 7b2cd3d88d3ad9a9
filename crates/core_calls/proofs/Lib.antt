pub mod Holding
pub mod Facts
pub mod Poking
pub mod Publishes
pub mod Owners
pub mod Looks
pub mod Driving
pub mod Calling
