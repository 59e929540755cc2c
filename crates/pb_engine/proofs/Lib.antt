pub mod ClauseLemmas
pub mod LongerLemmas
pub mod RelaxedLemmas
