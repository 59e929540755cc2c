pub mod Occurrences
pub mod Index
pub mod Constraints
pub mod Costs
pub mod Table
pub mod Tables
pub mod LiteralLists
pub mod Clauses
