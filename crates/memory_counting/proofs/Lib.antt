pub mod Bytes
pub mod Counts
pub mod Lists
pub mod Once
pub mod Sums
