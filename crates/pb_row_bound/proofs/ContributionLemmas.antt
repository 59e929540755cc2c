-- Visiting the open rows adds up the contributions of all rows.
use Rattle.std.proofs.Common.{◌≡◌, ℕ, ◌+◌, ◌-◌, ◌<◌, ◌≤◌, List, [], ◌∷◌, length, get_or, drop, drop-cons, refl, sym, ◌∙◌, ap, subst, arith, add-one, Bool, false, cond, All, inl, inr, zero, suc}
use Rattle.std.specs.Prelude.{nat_lt}
use Rattle.std.proofs.lemmas.Bool.{cases_Bool, ltb-false}
use Rattle.std.proofs.lemmas.List.{get_or-map}
use Rattle.pb_inst.specs.Literal.{Literal}
use Rattle.pb_normal.specs.declared.terms.PositiveTerm.{PositiveTerm}
use Rattle.pb_normal.specs.NormalForm.{PositiveRow, NormalForm, IsNormal}
use Rattle.pb_rows.specs.Constraints.{row_at, AreRowsOver, HaveRisingVariables}
use Rattle.pb_row_bound.specs.DisjointRows.{need, costly, contribution, contribution_of, is_picked, marked_by, row_contributions}
use Rattle.pb_row_bound.specs.Deficits.{are_open, AreCounters}
use Rattle.pb_bits.specs.RowSet.{HasNoneBetween}
use Rattle.pb_row_bound.proofs.DisjointBound.{ArePickable}
use Rattle.pb_row_bound.proofs.DeficitLemmas.{length-are_open}
use Rattle.pb_row_bound.proofs.OfferLemmas.{not_picked}

-- a row that needs nothing has no contribution
no-need : (objective : List PositiveTerm) (trail : List Literal) (row : PositiveRow) → need objective trail row ≡ 0 → contribution objective trail row ≡ 0
unfolding contribution
no-need objective trail row none = ap (λ (n : ℕ). contribution_of objective n (costly objective trail row.terms)) none

first_of_drop : (rows : List PositiveRow) (i : ℕ) → i < length rows → drop i rows ≡ row_at rows i ∷ drop (i + 1) rows
first_of_drop rows i h = rw (add-one) (drop-cons rows i (record { terms = []; degree = 0 }) h)

row_contributions-passed : (objective : List PositiveTerm) (trail : List Literal) (marks : List Bool) (rows : List PositiveRow) (i : ℕ) → i < length rows → is_picked objective trail marks (row_at rows i) ≡ false → row_contributions objective trail marks (drop i rows) ≡ row_contributions objective trail marks (drop (i + 1) rows)
row_contributions-passed objective trail marks rows i h passed =
    ap (row_contributions objective trail marks) (first_of_drop rows i h)
    ∙ ap (λ (b : Bool). cond b (contribution objective trail (row_at rows i) + row_contributions objective trail (marked_by trail marks (row_at rows i).terms) (drop (i + 1) rows)) (row_contributions objective trail marks (drop (i + 1) rows))) passed

-- rows that need nothing are passed over
passes : (objective : List PositiveTerm) (trail : List Literal) (marks : List Bool) (rows : List PositiveRow) (k from : ℕ) → from + k ≤ length rows → ((r : ℕ) → from ≤ r → r < from + k → need objective trail (row_at rows r) ≡ 0) → row_contributions objective trail marks (drop from rows) ≡ row_contributions objective trail marks (drop (from + k) rows)
passes objective trail marks rows zero from h none = ap (λ (n : ℕ). row_contributions objective trail marks (drop n rows)) (let same : from ≡ from + 0 = omega arith in same)
passes objective trail marks rows (suc k) from h none =
    row_contributions-passed objective trail marks rows from (omega arith) (not_picked objective trail marks (row_at rows from) (no-need objective trail (row_at rows from) (none from (omega arith) (omega arith))))
    ∙ (passes objective trail marks rows k (from + 1) (omega arith) (λ r low high. none r (omega arith) (omega arith))
    ∙ ap (λ (n : ℕ). row_contributions objective trail marks (drop n rows)) (let same : from + 1 + k ≡ from + suc k = omega arith in same))

pub row_contributions-next : (objective : List PositiveTerm) (trail : List Literal) (marks : List Bool) (rows : List PositiveRow) (from to : ℕ) → from ≤ to → to ≤ length rows → ((r : ℕ) → from ≤ r → r < to → need objective trail (row_at rows r) ≡ 0) → row_contributions objective trail marks (drop from rows) ≡ row_contributions objective trail marks (drop to rows)
row_contributions-next objective trail marks rows from to low high none =
    let same : from + (to - from) ≡ to = omega arith in
    passes objective trail marks rows (to - from) from (omega arith) (λ r above below. none r above (omega arith)) ∙ ap (λ (n : ℕ). row_contributions objective trail marks (drop n rows)) same

-- a row that isn't open needs no costly literal
pub none-needed : {limit : ℕ} (form : NormalForm) (rows : List PositiveRow) (trail : List Literal) (paid : ℕ) (deficits : List ℕ) (open_rows : List Bool) (from to : ℕ) → AreCounters limit form rows trail paid deficits open_rows → to ≤ length rows → HasNoneBetween open_rows from to → (r : ℕ) → from ≤ r → r < to → need form.objective trail (row_at rows r) ≡ 0
unfolding are_open
none-needed {limit} form rows trail paid deficits open_rows from to are high none r low below =
    let exists : r < length deficits = omega (arith, are.count) in
    let off : nat_lt limit (get_or deficits r 0) ≡ false = sym (get_or-map (λ (n : ℕ). nat_lt limit n) deficits r 0 false exists) ∙ (ap (λ (ms : List Bool). get_or ms r false) (sym are.open_rows_are) ∙ none r low below) in
    omega (arith, ltb-false limit (get_or deficits r 0) off, are.each r (omega arith))

pub open_rows-count : {limit : ℕ} (form : NormalForm) (rows : List PositiveRow) (trail : List Literal) (paid : ℕ) (deficits : List ℕ) (open_rows : List Bool) → AreCounters limit form rows trail paid deficits open_rows → length open_rows ≡ length rows
open_rows-count {limit} form rows trail paid deficits open_rows are = ap (λ (ms : List Bool). length ms) are.open_rows_are ∙ (length-are_open limit deficits ∙ are.count)

-- what the row adds, and what is left
pub row_contributions-step : (objective : List PositiveTerm) (trail : List Literal) (marks new : List Bool) (rows : List PositiveRow) (i result : ℕ) → i < length rows → result ≡ cond (is_picked objective trail marks (row_at rows i)) (contribution objective trail (row_at rows i)) 0 → new ≡ cond (is_picked objective trail marks (row_at rows i)) (marked_by trail marks (row_at rows i).terms) marks → row_contributions objective trail marks (drop i rows) ≡ result + row_contributions objective trail new (drop (i + 1) rows)
row_contributions-step objective trail marks new rows i result h adds is =
    let row = row_at rows i in
    elim (cases_Bool (is_picked objective trail marks row)) [
      | inl picked ↦
          (let first = ap (row_contributions objective trail marks) (first_of_drop rows i h) ∙ ap (λ (b : Bool). cond b (contribution objective trail row + row_contributions objective trail (marked_by trail marks row.terms) (drop (i + 1) rows)) (row_contributions objective trail marks (drop (i + 1) rows))) picked in
          let amount : result ≡ contribution objective trail row = adds ∙ ap (λ (b : Bool). cond b (contribution objective trail row) 0) picked in
          let marked : new ≡ marked_by trail marks row.terms = is ∙ ap (λ (b : Bool). cond b (marked_by trail marks row.terms) marks) picked in
          let rest = ap (λ (ms : List Bool). row_contributions objective trail ms (drop (i + 1) rows)) marked in
          omega arith)
      | inr passed ↦
          (let first = row_contributions-passed objective trail marks rows i h passed in
          let amount : result ≡ 0 = adds ∙ ap (λ (b : Bool). cond b (contribution objective trail row) 0) passed in
          let same : new ≡ marks = is ∙ ap (λ (b : Bool). cond b (marked_by trail marks row.terms) marks) passed in
          let rest = ap (λ (ms : List Bool). row_contributions objective trail ms (drop (i + 1) rows)) same in
          omega arith)
    ]

pub row_contributions-end : (objective : List PositiveTerm) (trail : List Literal) (marks : List Bool) (rows : List PositiveRow) → row_contributions objective trail marks (drop (length rows) rows) ≡ 0
row_contributions-end objective trail marks rows = ap (row_contributions objective trail marks) (all_dropped rows)
  where
    all_dropped : (xs : List PositiveRow) → drop (length xs) xs ≡ []
    all_dropped [] = refl
    all_dropped (x ∷ xs) = all_dropped xs

-- the rows of an engine are such that contributions of them add up
pub pickable : (form : NormalForm) (vars : ℕ) (rows : List PositiveRow) → IsNormal form → vars ≡ form.vars → HaveRisingVariables rows → AreRowsOver vars rows → ArePickable form rows
pickable form vars rows normal same rising over = record {
  objective = λ k d h. (normal.shape.objective.variables k d h).0;
  rows_are = λ k d h. (rising k d h, subst (λ (n : ℕ). All (λ (t : PositiveTerm). (1 ≤ t.lit.var) × (t.lit.var ≤ n)) (get_or rows k d).terms) same (over k d h));
}
