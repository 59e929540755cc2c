pub mod LayoutLemmas
pub mod DoneLemmas
pub mod RootLemmas
