-- Where the literals of clauses occur.
use Rattle.std.proofs.Common.{◌≡◌, ℕ, zero, suc, ◌+◌, ◌-◌, ◌<◌, ◌≤◌, List, [], ◌∷◌, ◌++◌, length, get_or, map, take, drop, refl, sym, ◌∙◌, ap, subst, arith, eqb, All, inl, inr, slice_range}
use Rattle.std.proofs.lemmas.Bool.{cases_Bool}
use Rattle.std.proofs.lemmas.List.{take-map, length-map, get_or-map}
use Rattle.std.proofs.lemmas.List.Elements.{All-nil, All-cons, All-head, All-tail, All-append}
use Rattle.pb_inst.specs.Literal.{Literal}
use Rattle.pb_normal.specs.declared.terms.PositiveTerm.{PositiveTerm}
use Rattle.pb_normal.specs.NormalForm.{PositiveRow}
use Rattle.pb_rows.specs.Occurrences.{Occurrence, Entry}
use Rattle.pb_rows.specs.Constraints.{row_at}
use Rattle.pb_rows.specs.Clauses.{unit_term, clause_row}
use Rattle.pb_rows.specs.Index.{literal_place, items_at, entries_of_row, entries_from, unit_occurrence, IsIndexed}
use Rattle.pb_rows.proofs.EntryLemmas.{entries_from-next}

abbrev unit_entry : ℕ → Literal → Entry
unit_entry r l = record { place = literal_place l; occurrence = record { row = r; coef = 1 } }

-- the row of a clause that is read
pub clause_at : (clauses : List (List Literal)) (i : ℕ) (lits : List Literal) → i < length clauses → lits ≡ get_or clauses i [] → row_at (map clause_row clauses) i ≡ clause_row lits
clause_at clauses i lits h read = get_or-map clause_row clauses i [] (record { terms = []; degree = 0 }) h ∙ ap clause_row (sym read)

pub clause_entries_from-next : (first : ℕ) (clauses : List (List Literal)) (i : ℕ) (lits : List Literal) (old new : List Entry) → i < length clauses → lits ≡ get_or clauses i [] → old ≡ entries_from first (map clause_row clauses) i → new ≡ old ++ entries_of_row (first + i) (clause_row lits).terms → new ≡ entries_from first (map clause_row clauses) (i + 1)
clause_entries_from-next first clauses i lits old new h read was is =
    let row = clause_at clauses i lits h read in
    is ∙ (ap (λ (es : List Entry). es ++ entries_of_row (first + i) (clause_row lits).terms) was
    ∙ (ap (λ (r : PositiveRow). entries_from first (map clause_row clauses) i ++ entries_of_row (first + i) r.terms) (sym row)
    ∙ sym (entries_from-next first (map clause_row clauses) i)))

-- every entry has the coefficient 1
abbrev pub IsUnit : Entry → Type 0
IsUnit e = e.occurrence.coef ≡ 1

row_units : (r : ℕ) (lits : List Literal) → All IsUnit (entries_of_row r (map unit_term lits))
unfolding entries_of_row
row_units r [] = All-nil IsUnit
row_units r (l ∷ lits) =
    let entry : PositiveTerm → Entry = λ t. record { place = literal_place t.lit; occurrence = record { row = r; coef = t.coef } } in
    All-cons IsUnit (unit_entry r l) (map entry (map unit_term lits)) refl (row_units r lits)

pub all_units : (first : ℕ) (clauses : List (List Literal)) (n : ℕ) → n ≤ length clauses → All IsUnit (entries_from first (map clause_row clauses) n)
all_units first clauses zero h = All-nil IsUnit
all_units first clauses (suc n) h =
    let row = clause_at clauses n (get_or clauses n []) (omega arith) refl in
    All-append IsUnit (entries_from first (map clause_row clauses) n) (entries_of_row (first + n) (row_at (map clause_row clauses) n).terms) (all_units first clauses n (omega arith))
    (subst (λ (r : PositiveRow). All IsUnit (entries_of_row (first + n) r.terms)) (sym row) (row_units (first + n) (get_or clauses n [])))

units_stay : (p : ℕ) (es : List Entry) → All IsUnit es → map unit_occurrence (items_at p es) ≡ items_at p es
unfolding items_at
units_stay p [] all = refl
units_stay p (e ∷ es) all =
    let rest = units_stay p es (All-tail IsUnit e es all) in
    let here : unit_occurrence e.occurrence ≡ e.occurrence = ap (λ (n : ℕ). let o : Occurrence = record { row = e.occurrence.row; coef = n } in o) (sym (All-head IsUnit e es all)) in
    elim (cases_Bool (eqb e.place p)) [
      | inl same ↦ rw same (cons_both here rest)
      | inr other ↦ rw other rest
    ]
  where
    cons_both : {X : Type 0} {x y : X} {xs ys : List X} → x ≡ y → xs ≡ ys → x ∷ xs ≡ y ∷ ys
    cons_both {x = x} {xs = xs} h k = cc

map-drop : (f : Occurrence → Occurrence) (n : ℕ) (xs : List Occurrence) → drop n (map f xs) ≡ map f (drop n xs)
map-drop f zero xs = refl
map-drop f (suc n) [] = refl
map-drop f (suc n) (x ∷ xs) = map-drop f n xs

part-map : (f : Occurrence → Occurrence) (xs : List Occurrence) (a b : ℕ) → slice_range (map f xs) a b ≡ map f (slice_range xs a b)
part-map f xs a b = ap (λ (ys : List Occurrence). take (b - a) ys) (map-drop f a xs) ∙ take-map f (b - a) (drop a xs)

-- occurrences whose coefficients are 1 stand in their places without them
pub unit_index : (places : ℕ) (entries : List Entry) (occurrences : List Occurrence) (starts : List ℕ) → All IsUnit entries → IsIndexed places entries occurrences starts → IsIndexed places entries (map unit_occurrence occurrences) starts
unit_index places entries occurrences starts all is = record {
  start_count = is.start_count;
  ordered = is.ordered;
  within = λ p h. (let count = length-map occurrences unit_occurrence in omega (arith, is.within p h));
  parts = λ p h. part-map unit_occurrence occurrences (get_or starts p 0) (get_or starts (p + 1) 0) ∙ (ap (map unit_occurrence) (is.parts p h) ∙ units_stay p entries all);
}
