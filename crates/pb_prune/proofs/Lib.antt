pub mod ValueLemmas
pub mod ClosedLemmas
pub mod AgreedPrefixLemmas
