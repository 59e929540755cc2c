pub mod Pieces
pub mod Joining
pub mod Costs
pub mod Parts
