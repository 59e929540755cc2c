pub mod Dives
