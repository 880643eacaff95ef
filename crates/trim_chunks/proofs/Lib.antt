pub mod Apart
pub mod Numbers
pub mod Sums
pub mod Walk
