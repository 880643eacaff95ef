pub mod Sums
pub mod Apart
pub mod Walk
