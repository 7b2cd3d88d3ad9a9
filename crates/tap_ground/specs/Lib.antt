pub mod Options
pub mod Results
pub mod Lists
pub mod Counts
pub mod Errors
