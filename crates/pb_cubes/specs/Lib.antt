pub mod Pieces
pub mod Piece
pub mod Occurrences
pub mod Split
pub mod Done
pub mod First
pub mod Solving
