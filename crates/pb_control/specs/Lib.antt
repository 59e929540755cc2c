pub mod Goal
pub mod Budget
