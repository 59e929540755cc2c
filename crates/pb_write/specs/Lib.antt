pub mod Text
pub mod Pieces
pub mod Turned
pub mod Written
pub mod Laws
