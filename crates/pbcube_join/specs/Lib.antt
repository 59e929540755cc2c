pub mod Ending
pub mod Joining
pub mod Reading
