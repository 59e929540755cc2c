pub mod Heading
pub mod Parts
