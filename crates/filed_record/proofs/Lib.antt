pub mod Holding
pub mod Calls
pub mod Kept
pub mod Marks
