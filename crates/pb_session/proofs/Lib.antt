pub mod EndLemmas
