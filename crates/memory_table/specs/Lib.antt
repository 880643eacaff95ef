pub mod Table
pub mod Ring
pub mod Order
pub mod Pieces
pub mod Sides
