pub mod Piece
pub mod Spelled
