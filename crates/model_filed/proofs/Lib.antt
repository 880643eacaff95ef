pub mod Filing
pub mod Marks
pub mod Unseen
pub mod Kept
pub mod Numbers
pub mod Example
