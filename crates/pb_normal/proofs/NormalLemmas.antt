-- A coefficient above the degree becomes the degree, and the order of terms does not matter.
use Rattle.std.proofs.Common.{◌≡◌, ℕ, ℤ, zero, suc, ◌+◌, ◌-◌, ◌*◌, ◌≤◌, List, [], ◌∷◌, map, min, get_or, sym, ◌∙◌, ap, arith, Bool, true, false, cond, sum_by}
use Rattle.std.proofs.lemmas.List.Sums.{sum_by-cons}
use Rattle.std.proofs.lemmas.List.Sorted.{sum_by-IsPermutation}
use Rattle.std.specs.List.{fold}
use Rattle.std.specs.List.Sorted.{IsPermutation}
use Rattle.std.specs.Prelude.{negsuc}
use Rattle.std.specs.Prelude.{pos, ◌+ℤ◌, ◌*ℤ◌, ◌-ℤ◌}
use Rattle.std.proofs.lemmas.Int.{ints}
use Rattle.pb_inst.specs.Literal.{Literal}
use Rattle.pb_inst.specs.Meaning.{literal_value, term_value, sum_value}
use Rattle.pb_inst.specs.declared.constraints.Term.{Term}
use Rattle.pb_normal.specs.declared.terms.PositiveTerm.{PositiveTerm}
use Rattle.pb_normal.specs.NormalForm.{positive_value}
use Rattle.pb_normal.specs.Merging.{clipped}

-- one term: the smaller of the degree and the sum is still reached
clip_term : (d c v s t : ℕ) → v ≤ 1 → min d s ≤ t → t ≤ s → (min d (c * v + s) ≤ min c d * v + t) × (min c d * v + t ≤ c * v + s)
clip_term d c zero s t one low high = (omega arith, omega arith)
clip_term d c (suc zero) s t one low high =
    (omega arith, omega arith)
clip_term d c (suc (suc v)) s t one low high = absurd (omega arith)

-- a literal is worth at most 1
pub value-le-one : (a : List Bool) (l : Literal) → literal_value a l ≤ 1
value-le-one a l = by_cases l.positive (get_or a (l.var - 1) false)
  where
    by_cases : (p v : Bool) → cond p (cond v 1 0) (1 - cond v 1 0) ≤ 1
    by_cases true true = omega arith
    by_cases true false = omega arith
    by_cases false true = omega arith
    by_cases false false = omega arith

-- cutting coefficients down to the degree keeps whether the degree is reached
pub clip_keeps : (a : List Bool) (degree : ℕ) (terms : List PositiveTerm) → (min degree (positive_value a terms) ≤ positive_value a (map (clipped degree) terms)) × (positive_value a (map (clipped degree) terms) ≤ positive_value a terms)
clip_keeps a degree [] = (omega arith, omega arith)
clip_keeps a degree (t ∷ terms) =
    let rest = clip_keeps a degree terms in
    let whole = sum_by-cons (λ (u : PositiveTerm). u.coef * literal_value a u.lit) t terms in
    let cut = sum_by-cons (λ (u : PositiveTerm). u.coef * literal_value a u.lit) (clipped degree t) (map (clipped degree) terms) in
    let here = clip_term degree t.coef (literal_value a t.lit) (positive_value a terms) (positive_value a (map (clipped degree) terms)) (value-le-one a t.lit) rest.0 rest.1 in
    (omega arith, omega arith)

-- what a term adds, and what it takes away
gain : ℤ → ℕ → ℕ
gain (pos n) v = n * v
gain (negsuc n) v = 0

loss : ℤ → ℕ → ℕ
loss (pos n) v = 0
loss (negsuc n) v = (n + 1) * v

gain_and_loss : (c : ℤ) (v : ℕ) → v ≤ 1 → c *ℤ pos v ≡ pos (gain c v) -ℤ pos (loss c v)
unfolding gain loss
gain_and_loss (pos n) zero h = omega (arith, ints)
gain_and_loss (pos n) (suc zero) h = omega (arith, ints)
gain_and_loss (negsuc n) zero h = omega (arith, ints)
gain_and_loss (negsuc n) (suc zero) h = omega (arith, ints)
gain_and_loss c (suc (suc v)) h = absurd (omega arith)

gains : List Bool → List Term → ℕ
gains a terms = sum_by (λ t. gain t.coef (literal_value a t.lit)) terms

losses : List Bool → List Term → ℕ
losses a terms = sum_by (λ t. loss t.coef (literal_value a t.lit)) terms

sum_from : (a : List Bool) (terms : List Term) (s : ℤ) → fold (λ (sum : ℤ) (t : Term). sum +ℤ term_value a t) s terms ≡ s +ℤ (pos (gains a terms) -ℤ pos (losses a terms))
unfolding gains losses
sum_from a [] s = omega (arith, ints)
sum_from a (t ∷ terms) s =
    let here = gain_and_loss t.coef (literal_value a t.lit) (value-le-one a t.lit) in
    let rest = sum_from a terms (s +ℤ term_value a t) in
    let more = sum_by-cons (λ (u : Term). gain u.coef (literal_value a u.lit)) t terms in
    let less = sum_by-cons (λ (u : Term). loss u.coef (literal_value a u.lit)) t terms in
    omega (arith, ints)

-- the order of the terms does not matter
pub sum_value-IsPermutation : (a : List Bool) (xs ys : List Term) → IsPermutation xs ys → sum_value a ys ≡ sum_value a xs
unfolding gains losses
sum_value-IsPermutation a xs ys same =
    let left = sum_from a ys (pos 0) in
    let right = sum_from a xs (pos 0) in
    let plus = sum_by-IsPermutation (λ (t : Term). gain t.coef (literal_value a t.lit)) xs ys same in
    let minus = sum_by-IsPermutation (λ (t : Term). loss t.coef (literal_value a t.lit)) xs ys same in
    left ∙ (ap (λ (n : ℕ). pos 0 +ℤ (pos n -ℤ pos (losses a ys))) plus ∙ (ap (λ (n : ℕ). pos 0 +ℤ (pos (gains a xs) -ℤ pos n)) minus ∙ sym right))
