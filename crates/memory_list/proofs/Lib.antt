pub mod Changes
pub mod Insert
pub mod Move
pub mod Split
pub mod Swap
pub mod Walks
pub mod Gathers
