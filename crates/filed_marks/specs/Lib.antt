pub mod Sums
pub mod Readings
