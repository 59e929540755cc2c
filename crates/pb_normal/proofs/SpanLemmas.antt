-- Rows kept as spans: how the list that contracts see follows the spans.
use Rattle.std.proofs.Common.{◌≡◌, ℕ, ◌+◌, ◌<◌, ◌≤◌, List, [], ◌∷◌, ◌++◌, length, get_or, map, All, refl, sym, ◌∙◌, ap, subst, Option, Some, option_map, slice_range, slice_get, arith}
use Rattle.std.specs.Prelude.{IsSomeAnd}
use Rattle.std.proofs.lemmas.List.{length-map}
use Rattle.std.proofs.lemmas.Option.{slice_get-map, slice_get_read}
use Rattle.pb_normal.specs.declared.rows.Span.{Span}
use Rattle.pb_normal.specs.declared.terms.PositiveTerm.{PositiveTerm}
use Rattle.pb_normal.specs.NormalForm.{PositiveRow}
use Rattle.pb_inst.proofs.Parts.{LiesWithin, LiesWithin-push, counted-push, parts_push, total_of_parts}
use Rattle.pb_normal.specs.Layout.{row_terms, row_of_span, rows_of_spans, AreSpansOf, AreSpansWithin}
use Rattle.pb_normal.specs.Fits.{HasSumsBelow}
use Rattle.std.proofs.lemmas.List.Elements.{All-nil, All-cons, All-append}

abbrev start_of : {C : Type 0} → Span C → ℕ
start_of span = span.start

abbrev end_of : {C : Type 0} → Span C → ℕ
end_of span = span.end

-- the row of a span, with these terms
abbrev with_part : {C : Type 0} → Span C → List PositiveTerm → PositiveRow
with_part span terms = record { terms = terms; degree = span.degree }

pub no_rows : {C : Type 0} → (terms : List PositiveTerm) (spans : List (Span C)) → spans ≡ [] → rows_of_spans terms spans ≡ []
unfolding rows_of_spans
no_rows terms spans e = ap (map (row_of_span terms)) e

pub row_count : {C : Type 0} → (terms : List PositiveTerm) (spans : List (Span C)) (xs : List PositiveRow) → rows_of_spans terms spans ≡ xs → length xs ≡ length spans
unfolding rows_of_spans
row_count terms spans xs view = ap (λ (rows : List PositiveRow). length rows) (sym view) ∙ length-map spans (row_of_span terms)

-- the row of a span that the code has read
pub read_row : {C : Type 0} → (terms : List PositiveTerm) (spans : List (Span C)) (xs : List PositiveRow) (i : ℕ) (span : Span C) → rows_of_spans terms spans ≡ xs → i < length spans → span ≡ get_or spans i span → slice_get xs i ≡ Some (row_of_span terms span)
unfolding rows_of_spans
read_row terms spans xs i span view h e =
    ap (λ (rows : List PositiveRow). slice_get rows i) (sym view) ∙ (slice_get-map (row_of_span terms) spans i ∙ ap (option_map (row_of_span terms)) (slice_get_read spans (length spans) i span refl h e))

pub read_degree : {C : Type 0} → (terms : List PositiveTerm) (spans : List (Span C)) (xs : List PositiveRow) (i : ℕ) (span : Span C) → rows_of_spans terms spans ≡ xs → i < length spans → span ≡ get_or spans i span → IsSomeAnd (slice_get xs i) (λ row. row.degree ≡ span.degree)
read_degree terms spans xs i span view h e = subst (λ (o : Option PositiveRow). IsSomeAnd o (λ row. row.degree ≡ span.degree)) (sym (read_row terms spans xs i span view h e)) refl

pub read_terms : {C : Type 0} → (terms : List PositiveTerm) (spans : List (Span C)) (xs : List PositiveRow) (i : ℕ) (span : Span C) (all part : List PositiveTerm) → rows_of_spans terms spans ≡ xs → i < length spans → span ≡ get_or spans i span → all ≡ terms → part ≡ slice_range all span.start span.end → IsSomeAnd (slice_get xs i) (λ row. row.terms ≡ part)
read_terms terms spans xs i span all part view h e same is =
    let here : slice_range terms span.start span.end ≡ part = ap (λ (ts : List PositiveTerm). slice_range ts span.start span.end) (sym same) ∙ sym is in
    subst (λ (o : Option PositiveRow). IsSomeAnd o (λ row. row.terms ≡ part)) (sym (read_row terms spans xs i span view h e)) here

pub span_in_range : {C : Type 0} → (terms : List PositiveTerm) (spans : List (Span C)) (i : ℕ) (span : Span C) → AreSpansOf terms spans → i < length spans → span ≡ get_or spans i span → (span.start ≤ span.end) × (span.end ≤ length terms)
span_in_range terms spans i span are h e = subst (LiesWithin start_of end_of terms) (sym e) (are.in_range i span h)

-- a span for terms that are added at the end adds one row at the end
rows-push : {C : Type 0} → (terms more : List PositiveTerm) (spans : List (Span C)) (span : Span C) → AreSpansOf terms spans → span.start ≡ length terms → span.end ≡ length terms + length more → rows_of_spans (terms ++ more) (spans ++ span ∷ []) ≡ rows_of_spans terms spans ++ record { terms = more; degree = span.degree } ∷ []
unfolding rows_of_spans
rows-push terms more spans span are start end = parts_push start_of end_of with_part terms more spans span are.in_range start end

pub push_row : {C : Type 0} → (terms more new_terms : List PositiveTerm) (spans new_spans : List (Span C)) (xs : List PositiveRow) (span : Span C) → rows_of_spans terms spans ≡ xs → AreSpansOf terms spans → new_terms ≡ terms ++ more → new_spans ≡ spans ++ span ∷ [] → span.start ≡ length terms → span.end ≡ length terms + length more → rows_of_spans new_terms new_spans ≡ xs ++ record { terms = more; degree = span.degree } ∷ []
push_row terms more new_terms spans new_spans xs span view are new_terms_are new_spans_are start end =
    rw (new_terms_are, new_spans_are, ← view) (rows-push terms more spans span are start end)

pub AreSpansOf-push : {C : Type 0} → (terms more new_terms : List PositiveTerm) (spans new_spans : List (Span C)) (span : Span C) → AreSpansOf terms spans → new_terms ≡ terms ++ more → new_spans ≡ spans ++ span ∷ [] → span.start ≡ length terms → span.end ≡ length terms + length more → AreSpansOf new_terms new_spans
AreSpansOf-push terms more new_terms spans new_spans span are new_terms_are new_spans_are start end =
    rw (new_terms_are, new_spans_are) (record { in_range = LiesWithin-push start_of end_of terms more spans span are.in_range start end; all_counted = counted-push start_of end_of terms more spans span are.all_counted start end })

pub AreSpansWithin-none : {C : Type 0} (limit : ℕ) (terms : List PositiveTerm) (spans : List (Span C)) → terms ≡ [] → spans ≡ [] → AreSpansWithin limit terms spans
unfolding rows_of_spans
AreSpansWithin-none limit terms spans no_terms no_spans = rw (no_terms, no_spans) (record {
  spans_of = record { in_range = λ i d h. absurd (omega arith); all_counted = refl };
  fits = λ i d h. absurd (omega arith);
})

pub AreSpansWithin-push : {C : Type 0} (limit : ℕ) (terms more new_terms : List PositiveTerm) (spans new_spans : List (Span C)) (span : Span C) → AreSpansWithin limit terms spans → new_terms ≡ terms ++ more → new_spans ≡ spans ++ span ∷ [] → span.start ≡ length terms → span.end ≡ length terms + length more → HasSumsBelow limit (record { terms = more; degree = span.degree }) → AreSpansWithin limit new_terms new_spans
AreSpansWithin-push limit terms more new_terms spans new_spans span are new_terms_are new_spans_are start end fits =
    let row : PositiveRow = record { terms = more; degree = span.degree } in
    let rows = push_row terms more new_terms spans new_spans (rows_of_spans terms spans) span refl are.spans_of new_terms_are new_spans_are start end in
    record {
      spans_of = AreSpansOf-push terms more new_terms spans new_spans span are.spans_of new_terms_are new_spans_are start end;
      fits = subst (λ (rs : List PositiveRow). All (λ r. HasSumsBelow limit r) rs) (sym rows) (All-append (λ (r : PositiveRow). HasSumsBelow limit r) (rows_of_spans terms spans) (row ∷ []) are.fits (All-cons (λ (r : PositiveRow). HasSumsBelow limit r) row [] fits (All-nil (λ (r : PositiveRow). HasSumsBelow limit r))));
    }

-- all rows together have as many terms as there are
pub row_terms_is : {C : Type 0} → (terms : List PositiveTerm) (spans : List (Span C)) (xs : List PositiveRow) → rows_of_spans terms spans ≡ xs → AreSpansOf terms spans → row_terms xs ≡ length terms
unfolding rows_of_spans
row_terms_is terms spans xs view are = ap row_terms (sym view) ∙ (total_of_parts start_of end_of with_part (λ (row : PositiveRow). length row.terms) (λ span part. refl) terms spans are.in_range ∙ are.all_counted)
