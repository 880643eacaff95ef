pub mod Call
pub mod Counts
pub mod Numbers
