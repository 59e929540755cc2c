pub mod Beginnings
pub mod Places
