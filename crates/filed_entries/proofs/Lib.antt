pub mod Columns
pub mod Places
pub mod Closing
pub mod Slices
pub mod Put
pub mod Out
