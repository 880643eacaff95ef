pub mod Piece
pub mod Insertion
pub mod CutsFirst
pub mod Calls
