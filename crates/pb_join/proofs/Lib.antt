pub mod Wholes
pub mod Steps
pub mod LeastCosts
pub mod PartSteps
pub mod PartNames
pub mod PartWholes
