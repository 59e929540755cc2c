-- Sums of terms: one more term, and how large a sum can be.
use Rattle.std.proofs.Common.{◌≡◌, ℕ, ◌+◌, ◌<◌, ◌≤◌, Bool, List, [], ◌∷◌, length, get_or, take, map, refl, sym, ◌∙◌, ap, arith, ℤ, pos, negsuc, ◌+ℤ◌, ◌*ℤ◌, unsigned_abs}
use Rattle.std.proofs.lemmas.Int.{ints}
use Rattle.std.proofs.lemmas.List.Sums.{fold_more, sum_by_more, sum_by-take-le, sum_by-cons}
use Rattle.pb_inst.specs.declared.constraints.Term.{Term}
use Rattle.pb_inst.specs.Literal.{Literal}
use Rattle.pb_inst.specs.Meaning.{literal_value, term_value, sum_value}
use Rattle.pb_inst.specs.Limits.{total_magnitude}
use Rattle.pb_inst.specs.Constraints.{unit_term}

-- a coefficient times 1, and times 0
times_one : (z : ℤ) → z *ℤ pos 1 ≡ z
times_one (pos n) = omega (arith, ints)
times_one (negsuc n) = omega (arith, ints)

times_zero : (z : ℤ) → z *ℤ pos 0 ≡ pos 0
times_zero (pos n) = omega (arith, ints)
times_zero (negsuc n) = omega (arith, ints)

pub plus_zero : (z : ℤ) → z +ℤ pos 0 ≡ z
plus_zero (pos n) = omega (arith, ints)
plus_zero (negsuc n) = omega (arith, ints)

pub term_value-true : (a : List Bool) (t : Term) → literal_value a t.lit ≡ 1 → term_value a t ≡ t.coef
term_value-true a t h = ap (λ n. t.coef *ℤ pos n) h ∙ times_one t.coef

pub term_value-false : (a : List Bool) (t : Term) → literal_value a t.lit ≡ 0 → term_value a t ≡ pos 0
term_value-false a t h = ap (λ n. t.coef *ℤ pos n) h ∙ times_zero t.coef

-- the sum of one more term
pub sum_value_more : (a : List Bool) (terms : List Term) (i : ℕ) (t : Term) → i < length terms → t ≡ get_or terms i t → sum_value a (take (i + 1) terms) ≡ sum_value a (take i terms) +ℤ term_value a t
sum_value_more a terms i t h e =
    fold_more (λ sum u. sum +ℤ term_value a u) (pos 0) terms i t h ∙ ap (λ u. sum_value a (take i terms) +ℤ term_value a u) (sym e)

-- the absolute coefficients of one more term
pub total_magnitude_more : (terms : List Term) (i : ℕ) (t : Term) → i < length terms → t ≡ get_or terms i t → total_magnitude (take (i + 1) terms) ≡ total_magnitude (take i terms) + unsigned_abs t.coef
total_magnitude_more terms i t h e =
    sum_by_more (λ (u : Term). unsigned_abs u.coef) terms i t h ∙ ap (λ (u : Term). total_magnitude (take i terms) + unsigned_abs u.coef) (sym e)

pub total_magnitude-take : (terms : List Term) (i : ℕ) → total_magnitude (take i terms) ≤ total_magnitude terms
total_magnitude-take terms i = sum_by-take-le (λ (u : Term). unsigned_abs u.coef) terms i

-- the absolute value of a sum of two
pub unsigned_abs-add : (x y : ℤ) → unsigned_abs (x +ℤ y) ≤ unsigned_abs x + unsigned_abs y
unsigned_abs-add (pos a) (pos b) = omega (arith, ints)
unsigned_abs-add (pos a) (negsuc b) = omega (arith, ints)
unsigned_abs-add (negsuc a) (pos b) = omega (arith, ints)
unsigned_abs-add (negsuc a) (negsuc b) = omega (arith, ints)

-- what a step of the sum keeps: the sum so far, and its bound
pub record IsSumTo (a : List Bool) (terms : List Term) (i : ℕ) (sum : ℤ) : Type 0 where
  pub so_far : sum ≡ sum_value a (take i terms)
  pub bounded : unsigned_abs sum ≤ total_magnitude (take i terms)

-- a term whose literal is true is added
pub IsSumTo-add : (a : List Bool) (terms : List Term) (i : ℕ) (t : Term) (sum next : ℤ) → i < length terms → t ≡ get_or terms i t → literal_value a t.lit ≡ 1 → IsSumTo a terms i sum → next ≡ sum +ℤ t.coef → IsSumTo a terms (i + 1) next
IsSumTo-add a terms i t sum next h e holds before step =
    let more = sum_value_more a terms i t h e in
    let value = term_value-true a t holds in
    let size = total_magnitude_more terms i t h e in
    let added = unsigned_abs-add sum t.coef in
    let size_next : unsigned_abs next ≡ unsigned_abs (sum +ℤ t.coef) = ap unsigned_abs step in
    let bound = before.bounded in
    record {
      so_far = step ∙ (ap (λ s. s +ℤ t.coef) before.so_far ∙ (ap (λ v. sum_value a (take i terms) +ℤ v) (sym value) ∙ sym more));
      bounded = omega arith;
    }

-- a term whose literal is false changes nothing
pub IsSumTo-skip : (a : List Bool) (terms : List Term) (i : ℕ) (t : Term) (sum next : ℤ) → i < length terms → t ≡ get_or terms i t → literal_value a t.lit ≡ 0 → IsSumTo a terms i sum → next ≡ sum → IsSumTo a terms (i + 1) next
IsSumTo-skip a terms i t sum next h e fails before step =
    let more = sum_value_more a terms i t h e in
    let value = term_value-false a t fails in
    let size = total_magnitude_more terms i t h e in
    let size_next : unsigned_abs next ≡ unsigned_abs sum = ap unsigned_abs step in
    let bound = before.bounded in
    record {
      so_far = step ∙ (before.so_far ∙ (sym (plus_zero (sum_value a (take i terms))) ∙ (ap (λ v. sum_value a (take i terms) +ℤ v) (sym value) ∙ sym more)));
      bounded = omega arith;
    }

-- the coefficients of a clause add up to the number of its literals
pub total_magnitude-units : (lits : List Literal) → total_magnitude (map unit_term lits) ≡ length lits
total_magnitude-units [] = refl
total_magnitude-units (l ∷ lits) =
    let first = sum_by-cons (λ (u : Term). unsigned_abs u.coef) (unit_term l) (map unit_term lits) in
    let rest = total_magnitude-units lits in
    omega arith
