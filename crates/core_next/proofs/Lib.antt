mod Sides
mod Turning
