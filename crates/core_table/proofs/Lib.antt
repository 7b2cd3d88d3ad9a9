mod Programs
mod Named
mod Rested
mod Changes
mod Looks
mod Sends
mod Writes
