pub mod Floats
pub mod Loops
pub mod Settings
pub mod Totals
pub mod Firsts
