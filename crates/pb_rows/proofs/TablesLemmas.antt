-- Rows of a form and clauses after them, as one list.
use Rattle.std.proofs.Common.{◌≡◌, ℕ, ◌+◌, ◌-◌, ◌<◌, ◌≤◌, List, [], ◌∷◌, length, get_or, map, refl, subst, sym, ◌∙◌, ap, arith, sum_by, All, inl, inr, ◌^◌}
use Rattle.std.proofs.lemmas.Bool.{cases_lt}
use Rattle.std.proofs.lemmas.List.{get_or_append_left, get_or-append_right, get_or_past, get_or-map, length-map}
use Rattle.std.proofs.lemmas.List.Elements.{All-map}
use Rattle.std.proofs.lemmas.List.Sums.{sum_by-cons}
use Rattle.pb_inst.specs.Literal.{Literal}
use Rattle.pb_normal.specs.declared.terms.PositiveTerm.{PositiveTerm}
use Rattle.pb_normal.specs.NormalForm.{PositiveRow}
use Rattle.pb_normal.specs.Fits.{HasSumsBelow}
use Rattle.pb_rows.specs.Clauses.{unit_term, clause_row}
use Rattle.pb_rows.specs.Constraints.{AreRowsOver, Constraints, row_at}
use Rattle.pb_rows.specs.Index.{occurrences_of, total_for}
use Rattle.pb_rows.specs.Table.{FormRows, ClauseRows}
use Rattle.pb_rows.specs.Tables.{constraints_of}
use Rattle.pb_normal.specs.Literals.{weight_of}
use Rattle.pb_normal.proofs.LiteralLemmas.{weight_of-nil}

abbrev blank : PositiveRow
blank = record { terms = []; degree = 0 }

-- a row of the form
pub form_row_at : (rows : FormRows) (clauses : ClauseRows) (c : Constraints) (r n : ℕ) → constraints_of rows clauses ≡ c → n ≡ length rows.form.rows → r < n → row_at c.rows r ≡ row_at rows.form.rows r
form_row_at rows clauses c r n view count low =
    ap (λ (k : Constraints). row_at k.rows r) (sym view) ∙ get_or_append_left rows.form.rows clauses.rows blank r (omega arith)

-- a clause
pub clause_at : (rows : FormRows) (clauses : ClauseRows) (c : Constraints) (r n : ℕ) → constraints_of rows clauses ≡ c → n ≡ length rows.form.rows → n ≤ r → row_at c.rows r ≡ row_at clauses.rows (r - n)
clause_at rows clauses c r n view count high =
    ap (λ (k : Constraints). row_at k.rows r) (sym view) ∙ get_or-append_right rows.form.rows clauses.rows n r blank (sym count) high

pub units_at_most : (lits : List Literal) → All (λ (t : PositiveTerm). t.coef ≤ 1) (clause_row lits).terms
units_at_most lits = All-map (λ (t : PositiveTerm). t.coef ≤ 1) unit_term lits (λ k d h. omega arith)

pub unit_clauses : (clauses : List (List Literal)) → All (λ (row : PositiveRow). (row.degree ≡ 1) × All (λ (t : PositiveTerm). t.coef ≤ 1) row.terms) (map clause_row clauses)
unit_clauses clauses = All-map (λ (row : PositiveRow). (row.degree ≡ 1) × All (λ (t : PositiveTerm). t.coef ≤ 1) row.terms) clause_row clauses (λ k d h. (refl, units_at_most (get_or clauses k d)))

pub total_units : (lits : List Literal) → sum_by (λ (t : PositiveTerm). t.coef) (clause_row lits).terms ≡ length lits
total_units [] = refl
total_units (l ∷ lits) =
    let rest = total_units lits in
    omega (arith, sum_by-cons (λ (t : PositiveTerm). t.coef) (unit_term l) (map unit_term lits))

-- the occurrences of both kinds have the weights of all rows
pub weights_beside : (rows : FormRows) (clauses : ClauseRows) (c : Constraints) (l : Literal) → constraints_of rows clauses ≡ c → clauses.first ≡ length rows.form.rows → ((r : ℕ) → total_for r (occurrences_of rows.occurrences rows.starts l) ≡ weight_of l (row_at rows.form.rows r).terms) → ((k : ℕ) → total_for (clauses.first + k) (occurrences_of clauses.occurrences clauses.starts l) ≡ weight_of l (row_at clauses.rows k).terms) → ((r : ℕ) → r < clauses.first → total_for r (occurrences_of clauses.occurrences clauses.starts l) ≡ 0) → (r : ℕ) → total_for r (occurrences_of c.occurrences c.starts l) + total_for r (occurrences_of c.units c.unit_starts l) ≡ weight_of l (row_at c.rows r).terms
weights_beside rows clauses c l view first form_weights clause_weights before r =
    let own : total_for r (occurrences_of c.occurrences c.starts l) ≡ total_for r (occurrences_of rows.occurrences rows.starts l) = ap (λ (k : Constraints). total_for r (occurrences_of k.occurrences k.starts l)) (sym view) in
    let others : total_for r (occurrences_of c.units c.unit_starts l) ≡ total_for r (occurrences_of clauses.occurrences clauses.starts l) = ap (λ (k : Constraints). total_for r (occurrences_of k.units k.unit_starts l)) (sym view) in
    elim (cases_lt r clauses.first) [
      | inl early ↦
          (let row = ap (λ (p : PositiveRow). weight_of l p.terms) (form_row_at rows clauses c r clauses.first view first early) in
          omega (arith, form_weights r, before r early))
      | inr late ↦
          (let row = ap (λ (p : PositiveRow). weight_of l p.terms) (clause_at rows clauses c r clauses.first view first late) in
          let past = ap (λ (p : PositiveRow). weight_of l p.terms) (get_or_past rows.form.rows r blank (omega arith)) in
          let place : clauses.first + (r - clauses.first) ≡ r = omega arith in
          let here = ap (λ (k : ℕ). total_for k (occurrences_of clauses.occurrences clauses.starts l)) place in
          omega (arith, form_weights r, clause_weights (r - clauses.first), weight_of-nil l))
    ]

-- the literals of a clause are of the variables that its row is over
pub clause_variables : (vars : ℕ) (rows : List PositiveRow) (r : ℕ) (lits : List Literal) → AreRowsOver vars rows → r < length rows → row_at rows r ≡ clause_row lits → All (λ (l : Literal). (1 ≤ l.var) × (l.var ≤ vars)) lits
clause_variables vars rows r lits over exists is k d h =
    let all : All (λ (t : PositiveTerm). (1 ≤ t.lit.var) × (t.lit.var ≤ vars)) (clause_row lits).terms = subst (λ (p : PositiveRow). All (λ (t : PositiveTerm). (1 ≤ t.lit.var) × (t.lit.var ≤ vars)) p.terms) is (over r blank exists) in
    let here : get_or (clause_row lits).terms k (unit_term d) ≡ unit_term (get_or lits k d) = get_or-map unit_term lits k d (unit_term d) h in
    subst (λ (t : PositiveTerm). (1 ≤ t.lit.var) × (t.lit.var ≤ vars)) here (all k (unit_term d) (omega (arith, length-map lits unit_term)))

-- a clause has a term for each literal
pub clause_width : (row : PositiveRow) (lits : List Literal) → row ≡ clause_row lits → length row.terms ≡ length lits
clause_width row lits is = ap (λ (p : PositiveRow). length p.terms) is ∙ length-map lits unit_term

pub clause_term : (row : PositiveRow) (lits : List Literal) (i : ℕ) (l : Literal) → row ≡ clause_row lits → i < length lits → l ≡ get_or lits i l → unit_term l ≡ get_or row.terms i (unit_term l)
clause_term row lits i l is h read = ap unit_term read ∙ (sym (get_or-map unit_term lits i l (unit_term l) h) ∙ ap (λ (p : PositiveRow). get_or p.terms i (unit_term l)) (sym is))

-- the sums of clauses are within the bound
pub small_clauses : (clauses : List (List Literal)) → All (λ (lits : List Literal). length lits < 2 ^ 63) clauses → All (λ (row : PositiveRow). HasSumsBelow (2 ^ 63) row) (map clause_row clauses)
small_clauses clauses short = All-map (λ (row : PositiveRow). HasSumsBelow (2 ^ 63) row) clause_row clauses (λ k d h. (omega arith, omega (arith, short k d h, total_units (get_or clauses k d))))
