pub mod Each
pub mod Known
pub mod Within
