pub mod Walk
mod Slicing
mod Into
