pub mod NormalForm
pub mod Fits
pub mod Literals
pub mod Exact
pub mod Merging
pub mod Layout
pub mod Widths
