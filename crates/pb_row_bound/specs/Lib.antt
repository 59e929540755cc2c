pub mod DisjointRows
pub mod Deficits
pub mod Offers
