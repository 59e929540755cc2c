-- Rows kept as ranges of one list of terms.
use Rattle.std.specs.Prelude.{◌≡◌, ℕ, ◌-◌, ◌≤◌, List, length, map, All, sum_by, slice_range}
use Rattle.pb_normal.specs.declared.rows.Span.{Span}
use Rattle.pb_normal.specs.declared.terms.PositiveTerm.{PositiveTerm}
use Rattle.pb_normal.specs.NormalForm.{PositiveRow}
use Rattle.pb_normal.specs.Fits.{HasSumsBelow}

-- the terms of all rows together
abbrev pub row_terms : List PositiveRow → ℕ
row_terms rows = sum_by (λ row. length row.terms) rows

-- the row of a span: its terms are those from `start` up to `end`
abbrev pub row_of_span : {C : Type 0} → List PositiveTerm → Span C → PositiveRow
row_of_span terms span = record { terms = slice_range terms span.start span.end; degree = span.degree }

unfoldable pub rows_of_spans : {C : Type 0} → List PositiveTerm → List (Span C) → List PositiveRow
rows_of_spans terms spans = map (row_of_span terms) spans

-- every span's terms are there, and the spans have no more terms together than there are
pub record AreSpansOf {C : Type 0} (terms : List PositiveTerm) (spans : List (Span C)) : Type 0 where
  pub in_range : All (λ span. (span.start ≤ span.end) × (span.end ≤ length terms)) spans
  pub all_counted : sum_by (λ span. span.end - span.start) spans ≡ length terms

-- the spans' rows have sums below the limit
pub record AreSpansWithin {C : Type 0} (limit : ℕ) (terms : List PositiveTerm) (spans : List (Span C)) : Type 0 where
  pub spans_of : AreSpansOf terms spans
  pub fits : All (λ row. HasSumsBelow limit row) (rows_of_spans terms spans)
