pub mod Calls
pub mod Claim
