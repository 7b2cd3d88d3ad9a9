mod Receiving
mod Transmitting
mod Giving
