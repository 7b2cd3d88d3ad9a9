mod Answered
mod Rings
mod Area
mod Posting
mod Served
mod Unserved
mod Worlds
mod Changed
