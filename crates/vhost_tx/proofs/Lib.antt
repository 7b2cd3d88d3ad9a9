mod Lies
mod Told
mod Steady
mod Gathered
mod Judging
