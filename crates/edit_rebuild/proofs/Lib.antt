pub mod Uses
pub mod LayOne
pub mod LayAll
pub mod Lay
