pub mod Orders
pub mod Effects
mod ComingRows
mod Coming
pub mod Lines
mod Files
mod Sights
mod Events
mod Leads
mod Numbers
mod SeenLooks
mod SeenRows
mod Seen
mod Telling
mod States
mod AfterEvent
mod Moments
mod Answered
