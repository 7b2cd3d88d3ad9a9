pub mod Header
pub mod Frame
pub mod Spelling
pub mod Text
pub mod Laws
