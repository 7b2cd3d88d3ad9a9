mod Folding
mod Opened
mod Putting
