pub mod Find
pub mod Insert
pub mod Split
pub mod Changes
pub mod Swap
pub mod Move
pub mod Rows
