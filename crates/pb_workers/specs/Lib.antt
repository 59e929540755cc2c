pub mod Keys
pub mod Sharing
pub mod Parts
pub mod Dealing
pub mod Claims
