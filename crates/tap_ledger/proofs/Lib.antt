mod Counted
mod Line
mod Prepared
