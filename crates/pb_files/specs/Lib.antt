pub mod Dividing
pub mod Names
pub mod Reading
pub mod Tasks
pub mod Texts
pub mod Writing
