pub mod Ending
pub mod Writing
