mod Lists
mod Filled
mod Actors
mod Declared
mod Positions
mod Steady
