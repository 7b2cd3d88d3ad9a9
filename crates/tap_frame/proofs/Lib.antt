mod Cases
mod Parts
mod Written
mod Apart
