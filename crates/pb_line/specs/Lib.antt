pub mod Dividing
pub mod Ends
pub mod Joining
pub mod Options
pub mod Tasks
pub mod Values
