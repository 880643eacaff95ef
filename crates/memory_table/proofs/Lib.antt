pub mod Copying
pub mod Order
pub mod Pieces
pub mod Ring
pub mod Table
pub mod Words
