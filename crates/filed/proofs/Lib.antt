pub mod Files
pub mod Withdraws
