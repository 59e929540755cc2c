pub mod CliqueLemmas
