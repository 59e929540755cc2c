pub mod NumberLaws
pub mod AloneLaws
pub mod ClaimLaws
pub mod DealingLaws
pub mod CutLaws
pub mod LeastLaws
pub mod WorkLaws
