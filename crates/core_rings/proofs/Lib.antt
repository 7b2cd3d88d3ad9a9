mod Events
mod Done
mod Rows
mod Reading
mod Telling
