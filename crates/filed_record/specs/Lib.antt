pub mod Record
pub mod Judged
pub mod Promises
pub mod Marks
