mod Splits
mod Takes
mod Fetched
mod Copied
mod Events
mod Readies
