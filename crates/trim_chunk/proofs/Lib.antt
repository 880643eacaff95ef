pub mod Numbers
pub mod RunEnds
pub mod Runs
pub mod Plain
pub mod Row
pub mod Sides
pub mod Uses
