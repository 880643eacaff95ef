pub mod Insert
pub mod LineCount
pub mod Lists
pub mod Spans
