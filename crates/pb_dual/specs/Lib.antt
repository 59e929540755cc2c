pub mod ReducedCosts
pub mod Changes
pub mod Saturation
pub mod Multipliers
