pub mod Claim
pub mod Decide
pub mod Example
pub mod Needed
