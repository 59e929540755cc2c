pub mod ClaimLemmas
pub mod CloseLemmas
pub mod Counts
pub mod LawLemmas
pub mod OfferLemmas
pub mod RowLemmas
pub mod StepLemmas
