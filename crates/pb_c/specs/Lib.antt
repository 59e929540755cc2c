pub mod Called
pub mod Codes
pub mod Copied
pub mod Held
pub mod Questions
