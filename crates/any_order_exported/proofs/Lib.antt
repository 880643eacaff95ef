pub mod Follow
pub mod Theorem
pub mod Joins
pub mod Worked
