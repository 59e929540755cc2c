pub mod BitLemmas
pub mod RowSetLemmas
pub mod MarkLemmas
