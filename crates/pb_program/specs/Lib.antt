pub mod Ending
pub mod Fetching
pub mod Line
pub mod Telling
