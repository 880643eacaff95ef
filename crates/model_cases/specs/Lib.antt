pub mod Case
pub mod Letters
pub mod Marked
pub mod Numbers
