pub mod Bits
pub mod RowSet
pub mod Marks
