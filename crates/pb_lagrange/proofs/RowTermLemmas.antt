-- The terms of a row of a normal form.
use Rattle.std.proofs.Common.{◌≡◌, ℕ, ◌<◌, ◌≤◌, List, [], length, get_or, sym, subst}
use Rattle.std.specs.Prelude.{IsSomeAnd, slice_get}
use Rattle.std.proofs.lemmas.Option.{slice_get-get_or}
use Rattle.pb_normal.specs.declared.terms.PositiveTerm.{PositiveTerm}
use Rattle.pb_normal.specs.NormalForm.{PositiveRow, NormalForm, IsNormal}

-- each is over one of the form's variables
pub term-within : (form : NormalForm) (row : ℕ) (terms : List PositiveTerm) (i : ℕ) (t : PositiveTerm) → IsNormal form → row < length form.rows → IsSomeAnd (slice_get form.rows row) (λ r. r.terms ≡ terms) → i < length terms → t ≡ get_or terms i t → t.lit.var ≤ form.vars
term-within form row terms i t normal exists read within is =
    let none : PositiveRow = record { terms = []; degree = 0 } in
    let same : (get_or form.rows row none).terms ≡ terms = subst (λ found. IsSomeAnd found (λ (r : PositiveRow). r.terms ≡ terms)) (slice_get-get_or form.rows row none exists) read in
    let inside : (k : ℕ) (d : PositiveTerm) → k < length terms → (get_or terms k d).lit.var ≤ form.vars = subst (λ (ts : List PositiveTerm). (k : ℕ) (d : PositiveTerm) → k < length ts → (get_or ts k d).lit.var ≤ form.vars) same (λ k d h. ((normal.shape.rows row none exists).terms.variables k d h).1) in
    subst (λ (u : PositiveTerm). u.lit.var ≤ form.vars) (sym is) (inside i t within)
