pub mod Piece
pub mod Insertion
pub mod Spot
pub mod Calls
