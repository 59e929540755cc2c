pub mod Ending
pub mod Reporting
