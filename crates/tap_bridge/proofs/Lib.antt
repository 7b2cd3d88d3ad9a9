mod Tables
mod Sound
