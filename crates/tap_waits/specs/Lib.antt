pub mod Next
pub mod NextChoices
pub mod Standstill
pub mod Going
