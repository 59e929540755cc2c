-- Another multiplier for a row: that all sums stay in their range, and what is kept beside the multipliers then.
use Rattle.std.proofs.Common.{◌≡◌, ℕ, ◌+◌, ◌-◌, ◌*◌, ◌<◌, ◌≤◌, List, length, get_or, set, refl, sym, ◌∙◌, ap, subst, arith, inl, inr, length-set, get_or-set_same, get_or-set_other}
use Rattle.std.proofs.lemmas.Bool.{cases_eq}
use Rattle.std.proofs.lemmas.Nat.{mul-le}
use Rattle.pb_inst.specs.Literal.{Literal}
use Rattle.pb_normal.specs.NormalForm.{PositiveRow, NormalForm, IsNormal, total_coefficient}
use Rattle.pb_normal.specs.Literals.{weight_of}
use Rattle.pb_rows.specs.Constraints.{row_at}
use Rattle.pb_rows.specs.Index.{literal_place}
use Rattle.pb_dual.specs.ReducedCosts.{promised, AreReducedCosts, IsReducedCost}
use Rattle.pb_dual.specs.Multipliers.{IsWithinShare}
use Rattle.pb_dual.proofs.ChangeLemmas.{weighted-set, promised-most}
use Rattle.pb_dual.proofs.SoundLemmas.{taken-le-promised, weight-most}

-- each row's multiplier stays within its share where one row is given another
pub within-set : (form : NormalForm) (ys : List ℕ) (share row to : ℕ) → length ys ≡ length form.rows → ((r : ℕ) → r < length form.rows → IsWithinShare form share r (get_or ys r 0)) → IsWithinShare form share row to → (r : ℕ) → r < length form.rows → IsWithinShare form share r (get_or (set ys row to) r 0)
within-set form ys share row to same each new r h = elim (cases_eq r row) [
  | inl here ↦
      (let moved : get_or (set ys row to) r 0 ≡ to = ap (λ (n : ℕ). get_or (set ys row to) n 0) here ∙ (let short : row < length ys = omega arith in let own : get_or (set ys row to) row 0 ≡ to = rw get_or-set_same refl in own) in
      let P : ℕ → Type 0 = λ n. IsWithinShare form share n to in
      subst (λ (n : ℕ). IsWithinShare form share r n) (sym moved) (subst P (sym here) new))
  | inr other ↦
      (let kept : get_or (set ys row to) r 0 ≡ get_or ys r 0 = rw get_or-set_other refl in
      subst (λ (n : ℕ). IsWithinShare form share r n) (sym kept) (each r h))
]

-- the degrees promise no more than the origin
pub promised-small : (form : NormalForm) (ys : List ℕ) (origin share : ℕ) → length ys ≡ length form.rows → share * length form.rows ≤ origin → ((r : ℕ) → r < length form.rows → IsWithinShare form share r (get_or ys r 0)) → promised ys form.rows ≤ origin
promised-small form ys origin share same shared each = omega (arith, promised-most ys form.rows share same each)

-- a reduced cost once the row's multiplier is replaced: what that needs, and that nothing leaves its range
pub can-set : (origin scale : ℕ) (form : NormalForm) (ys : List ℕ) (share row to : ℕ) (l : Literal) (cost : ℕ) → IsNormal form → length ys ≡ length form.rows → share * length form.rows ≤ origin → ((r : ℕ) → r < length form.rows → IsWithinShare form share r (get_or ys r 0)) → scale * total_coefficient form.objective < 2 * origin → row < length form.rows → IsWithinShare form share row to → IsReducedCost origin scale form ys l cost → (to * weight_of l (row_at form.rows row).terms ≤ cost + get_or ys row 0 * weight_of l (row_at form.rows row).terms) × (cost + get_or ys row 0 * weight_of l (row_at form.rows row).terms ≤ 3 * origin)
can-set origin scale form ys share row to l cost normal same shared each scaled exists new is =
    let w = weight_of l (row_at form.rows row).terms in
    let changed = weighted-set (λ (r : PositiveRow). weight_of l r.terms) ys form.rows row to same exists in
    let without = weighted-set (λ (r : PositiveRow). weight_of l r.terms) ys form.rows row 0 same exists in
    let count : length (set ys row to) ≡ length form.rows = length-set ys row to ∙ same in
    let small = promised-small form (set ys row to) origin share count shared (within-set form ys share row to same each new) in
    let taken = taken-le-promised form (set ys row to) l normal count in
    let dear = mul-le scale (weight_of l form.objective) scale (total_coefficient form.objective) (omega arith) (weight-most l form.objective) in
    (omega arith, omega arith)

-- the reduced costs of the other multipliers
pub costs-set : (origin scale : ℕ) (form : NormalForm) (ys costs new : List ℕ) (row to : ℕ) → length ys ≡ length form.rows → row < length form.rows → AreReducedCosts origin scale form ys costs → length new ≡ length costs → ((l : Literal) → 1 ≤ l.var → l.var ≤ form.vars → get_or new (literal_place l) 0 + to * weight_of l (row_at form.rows row).terms ≡ get_or costs (literal_place l) 0 + get_or ys row 0 * weight_of l (row_at form.rows row).terms) → AreReducedCosts origin scale form (set ys row to) new
costs-set origin scale form ys costs new row to same exists are count each = record {
  count = omega (arith, count, are.count);
  each = λ l low high. omega (arith, each l low high, are.each l low high, weighted-set (λ (r : PositiveRow). weight_of l r.terms) ys form.rows row to same exists);
}

-- the degrees of the other multipliers
pub degrees-set : (form : NormalForm) (ys : List ℕ) (row to : ℕ) → length ys ≡ length form.rows → row < length form.rows → (get_or ys row 0 * (row_at form.rows row).degree ≤ promised ys form.rows) × (promised ys form.rows - get_or ys row 0 * (row_at form.rows row).degree + to * (row_at form.rows row).degree ≡ promised (set ys row to) form.rows)
degrees-set form ys row to same exists =
    let changed = weighted-set (λ (r : PositiveRow). r.degree) ys form.rows row to same exists in
    let without = weighted-set (λ (r : PositiveRow). r.degree) ys form.rows row 0 same exists in
    (omega arith, omega arith)
