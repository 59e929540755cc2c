mod RowTermLemmas
