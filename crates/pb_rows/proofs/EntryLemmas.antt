-- Where the literals of rows occur, and that their occurrences have the rows' weights.
use Rattle.std.proofs.Common.{◌≡◌, ◌≢◌, ℕ, zero, suc, ◌+◌, ◌-◌, ◌*◌, ◌<◌, ◌≤◌, List, [], ◌∷◌, ◌++◌, length, get_or, map, take, refl, sym, ◌∙◌, ap, subst, arith, add-one, Bool, true, false, cond, eqb, All, inl, inr, ◌⊎◌}
use Rattle.std.proofs.lemmas.Bool.{cases_lt, cases_Bool, eq-eqb, ne_eqb}
use Rattle.std.proofs.lemmas.List.{take_more, map_push, get_or_past}
use Rattle.std.proofs.lemmas.List.Elements.{All-nil, All-cons, All-head, All-tail, All-append, All-weaker}
use Rattle.std.proofs.lemmas.List.Sums.{sum_by-cons, sum_by-append}
use Rattle.pb_inst.specs.Literal.{Literal}
use Rattle.pb_normal.specs.declared.terms.PositiveTerm.{PositiveTerm}
use Rattle.pb_normal.specs.NormalForm.{PositiveRow, NormalForm, IsNormal}
use Rattle.pb_rows.specs.Occurrences.{Occurrence, Entry}
use Rattle.pb_rows.specs.Constraints.{AreRowsOver, row_at}
use Rattle.pb_normal.specs.Literals.{same_literal, weight_of}
use Rattle.pb_rows.specs.Index.{literal_place, items_at, total_by, total_for, occurrences_of, entries_of_row, entries_from, IsIndexed, IsIndexOf}
use Rattle.pb_normal.proofs.LiteralLemmas.{same_literal-is, same_literal-itself, weight_of-nil, weight_of-cons}

abbrev entry : ℕ → PositiveTerm → Entry
entry r t = record { place = literal_place t.lit; occurrence = record { row = r; coef = t.coef } }

pub entries_of_row-nil : (r : ℕ) → entries_of_row r [] ≡ []
unfolding entries_of_row
entries_of_row-nil r = refl

-- one more item's literal occurs
pub entries_of_row-next : {A : Type 0} → (f : A → PositiveTerm) → (r : ℕ) (items : List A) (i : ℕ) (d : A) → i < length items → entries_of_row r (map f (take (i + 1) items)) ≡ entries_of_row r (map f (take i items)) ++ entry r (f (get_or items i d)) ∷ []
unfolding entries_of_row
entries_of_row-next f r items i d h =
    let more : map f (take (i + 1) items) ≡ map f (take i items) ++ f (get_or items i d) ∷ [] = ap (map f) (take_more items i d h) ∙ map_push f (take i items) (get_or items i d) in
    ap (map (entry r)) more ∙ map_push (entry r) (map f (take i items)) (f (get_or items i d))

pub entries_from-next : (first : ℕ) (rows : List PositiveRow) (n : ℕ) → entries_from first rows (n + 1) ≡ entries_from first rows n ++ entries_of_row (first + n) (row_at rows n).terms
entries_from-next first rows n = rw (add-one) refl

-- items and totals of two lists of entries together
items_at-append : (p : ℕ) (es fs : List Entry) → items_at p (es ++ fs) ≡ items_at p es ++ items_at p fs
unfolding items_at
items_at-append p [] fs = refl
items_at-append p (e ∷ es) fs =
    let rest = items_at-append p es fs in
    elim (cases_Bool (eqb e.place p)) [ inl same ↦ rw same (ap (λ (os : List Occurrence). e.occurrence ∷ os) rest) | inr other ↦ rw other rest ]

pub total_for-append : (r : ℕ) (os ps : List Occurrence) → total_for r (os ++ ps) ≡ total_for r os + total_for r ps
unfolding total_by
total_for-append r os ps = sum_by-append (λ (o : Occurrence). cond (eqb o.row r) o.coef 0) os ps

-- two literals of variables from 1 on have the same place exactly where they are the same
same_place : (l m : Literal) → 1 ≤ l.var → 1 ≤ m.var → literal_place l ≡ literal_place m → l ≡ m
same_place l m low high same =
    let vars : l.var ≡ m.var = by_sign l.positive m.positive same in
    let signs : l.positive ≡ m.positive = by_sign_too l.positive m.positive same in
    let whole : (let x : Literal = record { var = l.var; positive = l.positive } in x) ≡ record { var = m.var; positive = m.positive } = cc in
    whole
  where
    by_sign : (a b : Bool) → 2 * (l.var - 1) + cond a 1 0 ≡ 2 * (m.var - 1) + cond b 1 0 → l.var ≡ m.var
    by_sign true true h = omega arith
    by_sign true false h = absurd (omega arith)
    by_sign false true h = absurd (omega arith)
    by_sign false false h = omega arith

    by_sign_too : (a b : Bool) → 2 * (l.var - 1) + cond a 1 0 ≡ 2 * (m.var - 1) + cond b 1 0 → a ≡ b
    by_sign_too true true h = refl
    by_sign_too true false h = absurd (omega arith)
    by_sign_too false true h = absurd (omega arith)
    by_sign_too false false h = refl

pub same_place-same_literal : (l m : Literal) → 1 ≤ l.var → 1 ≤ m.var → eqb (literal_place m) (literal_place l) ≡ same_literal l m
same_place-same_literal l m low high = elim (cases_Bool (same_literal l m)) [
  | inl same ↦ (let is = same_literal-is l m same in eq-eqb (literal_place m) (literal_place l) (ap literal_place (sym is)) ∙ sym same)
  | inr other ↦ (ne_eqb (literal_place m) (literal_place l) (λ e. (let is = same_place m l high low e in let on : same_literal l m ≡ true = rw is (same_literal-itself l) in let none : ⊥ = cc in none)) ∙ sym other)
]

abbrev IsFromOne : PositiveTerm → Type 0
IsFromOne t = 1 ≤ t.lit.var

row_items-cons : (p r : ℕ) (t : PositiveTerm) (terms : List PositiveTerm) → items_at p (entries_of_row r (t ∷ terms)) ≡ cond (eqb (literal_place t.lit) p) (record { row = r; coef = t.coef } ∷ items_at p (entries_of_row r terms)) (items_at p (entries_of_row r terms))
unfolding items_at entries_of_row
row_items-cons p r t terms = refl

total_for-cons : (r : ℕ) (o : Occurrence) (os : List Occurrence) → total_for r (o ∷ os) ≡ cond (eqb o.row r) o.coef 0 + total_for r os
unfolding total_by
total_for-cons r o os = sum_by-cons (λ (x : Occurrence). cond (eqb x.row r) x.coef 0) o os

row_items-nil : (p r : ℕ) → items_at p (entries_of_row r []) ≡ []
unfolding items_at entries_of_row
row_items-nil p r = refl

total_for-empty : (r : ℕ) → total_for r [] ≡ 0
unfolding total_by
total_for-empty r = refl

-- what the entries of a row give a row
own_total : (l : Literal) (r : ℕ) (terms : List PositiveTerm) → 1 ≤ l.var → All IsFromOne terms → total_for r (items_at (literal_place l) (entries_of_row r terms)) ≡ weight_of l terms
own_total l r [] low all = ap (total_for r) (row_items-nil (literal_place l) r) ∙ (total_for-empty r ∙ sym (weight_of-nil l))
own_total l r (t ∷ terms) low all =
    let rest = own_total l r terms low (All-tail IsFromOne t terms all) in
    let at = same_place-same_literal l t.lit low (All-head IsFromOne t terms all) in
    let later = items_at (literal_place l) (entries_of_row r terms) in
    let o : Occurrence = record { row = r; coef = t.coef } in
    let list = row_items-cons (literal_place l) r t terms in
    let weight = weight_of-cons l t terms in
    elim (cases_Bool (same_literal l t.lit)) [
      | inl same ↦
          (let longer : items_at (literal_place l) (entries_of_row r (t ∷ terms)) ≡ o ∷ later = list ∙ ap (λ (b : Bool). cond b (o ∷ later) later) (at ∙ same) in
          let own : ◌≡◌ {A = ℕ} (cond (eqb r r) t.coef 0) t.coef = rw (eq-eqb r r refl) refl in
          let is : ◌≡◌ {A = ℕ} (cond (same_literal l t.lit) t.coef 0) t.coef = ap (λ (b : Bool). cond b t.coef 0) same in
          omega (arith, ap (total_for r) longer, total_for-cons r o later))
      | inr other ↦
          (let same : items_at (literal_place l) (entries_of_row r (t ∷ terms)) ≡ later = list ∙ ap (λ (b : Bool). cond b (o ∷ later) later) (at ∙ other) in
          let is : ◌≡◌ {A = ℕ} (cond (same_literal l t.lit) t.coef 0) 0 = ap (λ (b : Bool). cond b t.coef 0) other in
          omega (arith, ap (total_for r) same))
    ]

other_total : (p s r : ℕ) (terms : List PositiveTerm) → s ≢ r → total_for r (items_at p (entries_of_row s terms)) ≡ 0
other_total p s r [] other = ap (total_for r) (row_items-nil p s) ∙ total_for-empty r
other_total p s r (t ∷ terms) other =
    let rest = other_total p s r terms other in
    let later = items_at p (entries_of_row s terms) in
    let o : Occurrence = record { row = s; coef = t.coef } in
    let list = row_items-cons p s t terms in
    let none : ◌≡◌ {A = ℕ} (cond (eqb s r) t.coef 0) 0 = rw (ne_eqb s r other) refl in
    elim (cases_Bool (eqb (literal_place t.lit) p)) [
      | inl same ↦ (let longer : items_at p (entries_of_row s (t ∷ terms)) ≡ o ∷ later = list ∙ ap (λ (b : Bool). cond b (o ∷ later) later) same in omega (arith, ap (total_for r) longer, total_for-cons r o later))
      | inr elsewhere ↦ (let same : items_at p (entries_of_row s (t ∷ terms)) ≡ later = list ∙ ap (λ (b : Bool). cond b (o ∷ later) later) elsewhere in ap (total_for r) same ∙ rest)
    ]

total_for-none : (r p : ℕ) → total_for r (items_at p []) ≡ 0
unfolding total_by items_at
total_for-none r p = refl

total_next : (first : ℕ) (rows : List PositiveRow) (n p r : ℕ) → total_for r (items_at p (entries_from first rows (suc n))) ≡ total_for r (items_at p (entries_from first rows n)) + total_for r (items_at p (entries_of_row (first + n) (row_at rows n).terms))
total_next first rows n p r =
    ap (total_for r) (items_at-append p (entries_from first rows n) (entries_of_row (first + n) (row_at rows n).terms))
    ∙ total_for-append r (items_at p (entries_from first rows n)) (items_at p (entries_of_row (first + n) (row_at rows n).terms))

-- rows before the first, and those not reached yet, have nothing
total_outside : (first : ℕ) (rows : List PositiveRow) (n p r : ℕ) → ((r < first) ⊎ (first + n ≤ r)) → total_for r (items_at p (entries_from first rows n)) ≡ 0
total_outside first rows zero p r out = total_for-none r p
total_outside first rows (suc n) p r out =
    let apart : first + n ≢ r = elim out as (λ _. first + n ≢ r) [ inl low ↦ (λ e. omega arith) | inr high ↦ (λ e. omega arith) ] in
    let still : (r < first) ⊎ (first + n ≤ r) = elim out as (λ _. (r < first) ⊎ (first + n ≤ r)) [ inl low ↦ inl low | inr high ↦ inr (omega arith) ] in
    omega (arith, total_next first rows n p r, total_outside first rows n p r still, other_total p (first + n) r (row_at rows n).terms apart)

total_inside : (first : ℕ) (rows : List PositiveRow) (n k : ℕ) (l : Literal) → 1 ≤ l.var → All (λ (row : PositiveRow). All IsFromOne row.terms) rows → n ≤ length rows → k < n → total_for (first + k) (items_at (literal_place l) (entries_from first rows n)) ≡ weight_of l (row_at rows k).terms
total_inside first rows zero k l low all within h = absurd (omega arith)
total_inside first rows (suc n) k l low all within h =
    let next = total_next first rows n (literal_place l) (first + k) in
    elim (cases_lt k n) [
      | inl early ↦ (let apart : first + n ≢ first + k = λ e. omega arith in omega (arith, total_inside first rows n k l low all (omega arith) early, other_total (literal_place l) (first + n) (first + k) (row_at rows n).terms apart))
      | inr late ↦
          (let at : n ≡ k = omega arith in
          let own = own_total l (first + n) (row_at rows n).terms low (all n (record { terms = []; degree = 0 }) (omega arith)) in
          let same : total_for (first + k) (items_at (literal_place l) (entries_of_row (first + n) (row_at rows n).terms)) ≡ weight_of l (row_at rows k).terms = subst (λ (j : ℕ). total_for (first + j) (items_at (literal_place l) (entries_of_row (first + n) (row_at rows n).terms)) ≡ weight_of l (row_at rows j).terms) at own in
          omega (arith, total_outside first rows n (literal_place l) (first + k) (inr (omega arith))))
    ]

weights_all : (first : ℕ) (rows : List PositiveRow) (k : ℕ) (l : Literal) → 1 ≤ l.var → All (λ (row : PositiveRow). All IsFromOne row.terms) rows → total_for (first + k) (items_at (literal_place l) (entries_from first rows (length rows))) ≡ weight_of l (row_at rows k).terms
weights_all first rows k l low all = elim (cases_lt k (length rows)) [
  | inl within ↦ total_inside first rows (length rows) k l low all (omega arith) within
  | inr past ↦
      (let empty : row_at rows k ≡ record { terms = []; degree = 0 } = get_or_past rows k (record { terms = []; degree = 0 }) past in
      total_outside first rows (length rows) (literal_place l) (first + k) (inr (omega arith)) ∙ sym (ap (λ (row : PositiveRow). weight_of l row.terms) empty ∙ weight_of-nil l))
]

-- every entry is of a row that exists, at a place that exists
abbrev pub IsEntryOf : ℕ → ℕ → Entry → Type 0
IsEntryOf vars n e = (e.place < 2 * vars) × (e.occurrence.row < n)

place_in_range : (l : Literal) (vars : ℕ) → 1 ≤ l.var → l.var ≤ vars → literal_place l < 2 * vars
place_in_range l vars low high = by_sign l.positive
  where
    by_sign : (b : Bool) → 2 * (l.var - 1) + cond b 1 0 < 2 * vars
    by_sign true = omega arith
    by_sign false = omega arith

row_entries : (vars r n : ℕ) (terms : List PositiveTerm) → r < n → All (λ (t : PositiveTerm). (1 ≤ t.lit.var) × (t.lit.var ≤ vars)) terms → All (IsEntryOf vars n) (entries_of_row r terms)
unfolding entries_of_row
row_entries vars r n [] low all = All-nil (IsEntryOf vars n)
row_entries vars r n (t ∷ terms) low all =
    let Q : PositiveTerm → Type 0 = λ u. (1 ≤ u.lit.var) × (u.lit.var ≤ vars) in
    let here = All-head Q t terms all in
    All-cons (IsEntryOf vars n) (entry r t) (map (entry r) terms) (place_in_range t.lit vars here.0 here.1, low) (row_entries vars r n terms low (All-tail Q t terms all))

pub are_entries : (vars first : ℕ) (rows : List PositiveRow) (n : ℕ) → AreRowsOver vars rows → n ≤ length rows → All (IsEntryOf vars (first + n)) (entries_from first rows n)
are_entries vars first rows zero over within = All-nil (IsEntryOf vars (first + 0))
are_entries vars first rows (suc n) over within =
    let before = All-weaker (IsEntryOf vars (first + n)) (IsEntryOf vars (first + suc n)) (λ e h. (h.0, omega (arith, h.1))) (entries_from first rows n) (are_entries vars first rows n over (omega arith)) in
    All-append (IsEntryOf vars (first + suc n)) (entries_from first rows n) (entries_of_row (first + n) (row_at rows n).terms) before
    (row_entries vars (first + n) (first + suc n) (row_at rows n).terms (omega arith) (over n (record { terms = []; degree = 0 }) (omega arith)))

items_exist : (vars n p : ℕ) (es : List Entry) → All (IsEntryOf vars n) es → All (λ (o : Occurrence). o.row < n) (items_at p es)
unfolding items_at
items_exist vars n p [] all = All-nil (λ (o : Occurrence). o.row < n)
items_exist vars n p (e ∷ es) all =
    let Q : Occurrence → Type 0 = λ o. o.row < n in
    let here = All-head (IsEntryOf vars n) e es all in
    let rest = items_exist vars n p es (All-tail (IsEntryOf vars n) e es all) in
    elim (cases_Bool (eqb e.place p)) [ inl same ↦ rw same (All-cons Q e.occurrence (items_at p es) here.1 rest) | inr other ↦ rw other rest ]

-- entries that were put in their places are an index of their rows
pub is_index_of : (vars first : ℕ) (rows : List PositiveRow) (entries : List Entry) (occurrences : List Occurrence) (starts : List ℕ) → AreRowsOver vars rows → entries ≡ entries_from first rows (length rows) → IsIndexed (2 * vars) entries occurrences starts → IsIndexOf vars first rows occurrences starts
is_index_of vars first rows entries occurrences starts over all is =
    let from_one : All (λ (row : PositiveRow). All IsFromOne row.terms) rows = λ k d h i e low. (over k d h i e low).0 in
    let part : (l : Literal) → 1 ≤ l.var → l.var ≤ vars → occurrences_of occurrences starts l ≡ items_at (literal_place l) (entries_from first rows (length rows)) = λ l low high. is.parts (literal_place l) (place_in_range l vars low high) ∙ ap (items_at (literal_place l)) all in
    record {
      start_count = is.start_count;
      ordered = is.ordered;
      within = is.within;
      rows_exist = λ l low high. subst (λ (os : List Occurrence). All (λ (o : Occurrence). o.row < first + length rows) os) (sym (part l low high)) (items_exist vars (first + length rows) (literal_place l) (entries_from first rows (length rows)) (are_entries vars first rows (length rows) over (omega arith)));
      weights = λ l k low high. ap (total_for (first + k)) (part l low high) ∙ weights_all first rows k l low from_one;
      before = λ l r low high less. ap (total_for r) (part l low high) ∙ total_outside first rows (length rows) (literal_place l) r (inl less);
    }

-- the rows of a normal form are over its variables
pub rows_of_normal : (form : NormalForm) → IsNormal form → AreRowsOver form.vars form.rows
rows_of_normal form is k d h = (is.shape.rows k d h).terms.variables

-- the entries of all rows are at places that exist
pub entries_within : (form : NormalForm) (entries seen : List Entry) (vars : ℕ) → IsNormal form → entries ≡ entries_from 0 form.rows (length form.rows) → seen ≡ entries → vars ≡ form.vars → All (λ (e : Entry). e.place < 2 * vars) seen
entries_within form entries seen vars is all same count =
    let each = are_entries form.vars 0 form.rows (length form.rows) (rows_of_normal form is) (omega arith) in
    rw (same ∙ all, count) (λ k d h. (each k d h).0)
