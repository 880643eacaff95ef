pub mod OnRecord
pub mod Written
pub mod Sums
pub mod Readings
pub mod Shown
