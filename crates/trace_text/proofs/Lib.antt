mod Loops
pub mod Lists
pub mod Sentences
pub mod Kept
pub mod Rings
pub mod Heard
pub mod Again
pub mod Closing
pub mod Fitting
pub mod Next
pub mod ReadLines
pub mod Adds
pub mod Lines
pub mod Exits
pub mod Pieces
pub mod OneBad
