pub mod Notes
pub mod Claims
