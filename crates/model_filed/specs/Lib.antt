pub mod Filed
pub mod Marks
pub mod Kept
pub mod Worked
