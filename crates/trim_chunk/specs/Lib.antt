pub mod Sides
pub mod Plain
pub mod Uses
pub mod Row
pub mod RunEnds
