-- The least value of a sum is the lesser of each variable's two coefficients, added up.
use Rattle.std.proofs.Common.{◌≡◌, ◌≢◌, ℕ, ℤ, zero, suc, ◌+◌, ◌-◌, ◌<◌, ◌≤◌, List, [], ◌∷◌, get_or, refl, sym, ◌∙◌, ap, arith, Bool, true, false, not, cond, inl, inr}
use Rattle.std.specs.Prelude.{◌⊎◌, int_lt, fold, pos, negsuc, ◌+ℤ◌, ◌*ℤ◌, ◌≤ℤ◌}
use Rattle.std.specs.Int.{int_min}
use Rattle.std.specs.List.{range_with_len}
use Rattle.std.proofs.lemmas.Int.{ints, clamps}
use Rattle.std.proofs.lemmas.Bool.{cases_eq, cases_Bool}
use Rattle.std.proofs.lemmas.List.Elements.{All-head, All-tail}
use Rattle.pb_inst.specs.Limits.{AllVariablesWithin}
use Rattle.pb_inst.specs.Meaning.{term_value, sum_value}
use Rattle.pb_inst.specs.declared.constraints.Term.{Term}
use Rattle.pb_inst.proofs.SumProofs.{sum_value-cons}
use Rattle.pb_normal.specs.Literals.{same_sign, same_literal}
use Rattle.pb_normal.specs.Exact.{coefficient_of, LeastValueIsSumOfMinima}
use Rattle.pb_normal.proofs.LiteralLemmas.{lit, same_literal-at, same_literal-other}
use Rattle.pb_normal.proofs.ExactLemmas.{signed-cons, coefficient_of-cons, assigned, assigned_is}

-- a number for each variable, added up over n variables from `start` on
abbrev over : (ℕ → ℤ) → ℕ → ℕ → ℤ
over f start n = fold (λ sum v. sum +ℤ f v) (pos 0) (range_with_len start n)

over-suc : (f : ℕ → ℤ) (s n : ℕ) → over f s (suc n) ≡ f s +ℤ over f (s + 1) n
over-suc f s n = signed-cons f s (range_with_len (s + 1) n)

all_zero : (f : ℕ → ℤ) (s n : ℕ) → ((v : ℕ) → s ≤ v → f v ≡ pos 0) → over f s n ≡ pos 0
all_zero f s zero h = refl
all_zero f s (suc n) h =
    let first = h s (omega arith) in
    let rest = all_zero f (s + 1) n (λ v above. h v (omega arith)) in
    let whole = over-suc f s n in
    omega (arith, ints)

-- all but one are 0
only_one : (f : ℕ → ℤ) (s n x : ℕ) (c : ℤ) → s ≤ x → x < s + n → f x ≡ c → ((v : ℕ) → v ≢ x → f v ≡ pos 0) → over f s n ≡ c
only_one f s zero x c low high is other = absurd (omega arith)
only_one f s (suc n) x c low high is other =
    let whole = over-suc f s n in
    elim (cases_eq s x) [
      | inl same ↦
          (let first : f s ≡ c = ap f same ∙ is in
          let rest = all_zero f (s + 1) n (λ v above. other v (λ e. omega arith)) in
          omega (arith, ints))
      | inr isnt ↦
          (let first = other s isnt in
          let rest = only_one f (s + 1) n x c (omega arith) (omega arith) is other in
          omega (arith, ints))
    ]

over-add : (f g h : ℕ → ℤ) (s n : ℕ) → ((v : ℕ) → h v ≡ f v +ℤ g v) → over h s n ≡ over f s n +ℤ over g s n
over-add f g h s zero each = refl
over-add f g h s (suc n) each =
    let here = each s in
    let rest = over-add f g h (s + 1) n each in
    let left = over-suc f s n in
    let right = over-suc g s n in
    let both = over-suc h s n in
    omega (arith, ints)

over-le : (f g : ℕ → ℤ) (s n : ℕ) → ((v : ℕ) → f v ≤ℤ g v) → over f s n ≤ℤ over g s n
over-le f g s zero each = omega (arith, ints)
over-le f g s (suc n) each =
    let here = each s in
    let rest = over-le f g (s + 1) n each in
    let left = over-suc f s n in
    let right = over-suc g s n in
    omega (arith, ints)

over-same : (f g : ℕ → ℤ) (s n : ℕ) → ((v : ℕ) → s ≤ v → v < s + n → f v ≡ g v) → over f s n ≡ over g s n
over-same f g s zero each = refl
over-same f g s (suc n) each =
    let here = each s (omega arith) (omega arith) in
    let rest = over-same f g (s + 1) n (λ v low high. each v (omega arith) (omega arith)) in
    let left = over-suc f s n in
    let right = over-suc g s n in
    omega (arith, ints)

-- the coefficient of the variable's literal that the assignment makes true
abbrev chosen : List Bool → List Term → ℕ → ℤ
chosen a terms v = coefficient_of (lit v (get_or a (v - 1) false)) terms

by_signs : (c : ℤ) (b p : Bool) → cond (same_sign b p) c (pos 0) ≡ c *ℤ pos (cond p (cond b 1 0) (1 - cond b 1 0))
by_signs (pos n) true true = omega (arith, ints)
by_signs (pos n) true false = omega (arith, ints)
by_signs (pos n) false true = omega (arith, ints)
by_signs (pos n) false false = omega (arith, ints)
by_signs (negsuc n) true true = omega (arith, ints)
by_signs (negsuc n) true false = omega (arith, ints)
by_signs (negsuc n) false true = omega (arith, ints)
by_signs (negsuc n) false false = omega (arith, ints)

-- a sum by its variables
sum_is : (a : List Bool) (n : ℕ) (terms : List Term) → AllVariablesWithin n terms → sum_value a terms ≡ over (chosen a terms) 1 n
sum_is a n [] all = sym (all_zero (chosen a []) 1 n (λ v low. refl))
sum_is a n (t ∷ terms) all =
    let within = All-head (λ (u : Term). (1 ≤ u.lit.var) × (u.lit.var ≤ n)) t terms all in
    let rest = sum_is a n terms (All-tail (λ (u : Term). (1 ≤ u.lit.var) × (u.lit.var ≤ n)) t terms all) in
    let value : ℕ → Bool = λ v. get_or a (v - 1) false in
    let own : ℕ → ℤ = λ v. cond (same_literal (lit v (value v)) t.lit) t.coef (pos 0) in
    let here : own t.lit.var ≡ term_value a t = rw (same_literal-at (lit t.lit.var (value t.lit.var)) t.lit refl) (by_signs t.coef (value t.lit.var) t.lit.positive) in
    let one = only_one own 1 n t.lit.var (term_value a t) (within.0) (omega arith) here (λ v other. rw (same_literal-other (lit v (value v)) t.lit other) refl) in
    let both = over-add own (chosen a terms) (chosen a (t ∷ terms)) 1 n (λ v. coefficient_of-cons (lit v (value v)) t terms) in
    let whole = sum_value-cons a t terms in
    omega (arith, ints)

-- the lesser of a variable's coefficients
abbrev lesser : List Term → ℕ → ℤ
lesser terms v = int_min (coefficient_of (lit v true) terms) (coefficient_of (lit v false) terms)

-- a variable is true where its negation has no less
abbrev takes_lesser : List Term → ℕ → Bool
takes_lesser terms v = not (int_lt (coefficient_of (lit v false) terms) (coefficient_of (lit v true) terms))

pub least_by_variables : LeastValueIsSumOfMinima
least_by_variables n terms all = record {
  below_all = λ a. (let sum = sum_is a n terms all in let le = over-le (lesser terms) (chosen a terms) 1 n (λ v. not_above v (get_or a (v - 1) false)) in omega (arith, ints));
  place = assigned n (takes_lesser terms);
  reached = sum_is (assigned n (takes_lesser terms)) n terms all ∙ over-same (chosen (assigned n (takes_lesser terms)) terms) (lesser terms) 1 n (λ v low high. ap (λ (b : Bool). coefficient_of (lit v b) terms) (assigned_is n (takes_lesser terms) v low (omega arith)) ∙ takes v (cases_Bool (int_lt (coefficient_of (lit v false) terms) (coefficient_of (lit v true) terms))));
}
  where
    not_above : (v : ℕ) (b : Bool) → lesser terms v ≤ℤ coefficient_of (lit v b) terms
    not_above v true = omega (arith, ints, clamps)
    not_above v false = omega (arith, ints, clamps)

    takes : (v : ℕ) → (int_lt (coefficient_of (lit v false) terms) (coefficient_of (lit v true) terms) ≡ true) ⊎ (int_lt (coefficient_of (lit v false) terms) (coefficient_of (lit v true) terms) ≡ false) → coefficient_of (lit v (takes_lesser terms v)) terms ≡ lesser terms v
    takes v (inl is) = rw is refl
    takes v (inr is) = rw is refl
