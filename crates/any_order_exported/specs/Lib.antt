pub mod Runs
pub mod Claim
pub mod Joins
pub mod Worked
