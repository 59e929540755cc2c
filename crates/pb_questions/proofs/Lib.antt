pub mod UnderLemmas
pub mod ExplainLemmas
pub mod FixedLemmas
pub mod KnownLemmas
