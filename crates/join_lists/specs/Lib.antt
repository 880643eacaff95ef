pub mod Judged
pub mod Promises
