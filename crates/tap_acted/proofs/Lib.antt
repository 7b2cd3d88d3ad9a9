mod Folds
mod Opens
mod Along
mod Touches
mod Alike
mod Callings
mod Turning
mod Backing
