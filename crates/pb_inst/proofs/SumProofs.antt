-- The laws of sums of terms.
use Rattle.std.proofs.Common.{◌≡◌, ◌-◌, ◌≤◌, Bool, true, false, cond, List, [], ◌∷◌, ◌++◌, get_or, Option, None, Some, refl, sym, ap, arith, inl, inr, ◌⊎◌, ℤ, pos, ◌+ℤ◌, unsigned_abs}
use Rattle.std.specs.List.{fold}
use Rattle.std.specs.Option.{option_map_or}
use Rattle.std.proofs.lemmas.Int.{ints}
use Rattle.std.proofs.lemmas.List.Sums.{sum_by-cons}
use Rattle.pb_inst.specs.declared.constraints.Term.{Term}
use Rattle.pb_inst.specs.declared.limits.TheConstants.{SUM_BOUND}
use Rattle.pb_inst.specs.Literal.{Literal}
use Rattle.pb_inst.specs.Meaning.{literal_value, term_value, sum_value}
use Rattle.pb_inst.specs.Limits.{total_magnitude}
use Rattle.pb_inst.specs.SumLaws.{SumOfTermAndRest, SumOfTwoLists, SumIsWithinMagnitude, CostIsWithinBound}
use Rattle.pb_inst.proofs.SumLemmas.{plus_zero, term_value-true, term_value-false, unsigned_abs-add}

-- a sum that starts at z is z and the sum that starts at 0
fold_from : (value : Term → ℤ) (terms : List Term) (z : ℤ) → fold (λ sum t. sum +ℤ value t) z terms ≡ z +ℤ fold (λ sum t. sum +ℤ value t) (pos 0) terms
fold_from value [] z = sym (plus_zero z)
fold_from value (t ∷ terms) z =
    let left = fold_from value terms (z +ℤ value t) in
    let right = fold_from value terms (pos 0 +ℤ value t) in
    omega (arith, ints)

pub sum_value-cons : SumOfTermAndRest
sum_value-cons a t terms =
    let rest = fold_from (term_value a) terms (pos 0 +ℤ term_value a t) in
    omega (arith, ints)

pub sum_value-append : SumOfTwoLists
sum_value-append a [] ys = omega (arith, ints)
sum_value-append a (t ∷ xs) ys =
    let all = sum_value-cons a t (xs ++ ys) in
    let first = sum_value-cons a t xs in
    let rest = sum_value-append a xs ys in
    omega (arith, ints)

-- a literal is true or false
literal_by_bools : (sign value : Bool) → (cond sign (cond value 1 0) (1 - cond value 1 0) ≡ 1) ⊎ (cond sign (cond value 1 0) (1 - cond value 1 0) ≡ 0)
literal_by_bools true true = inl refl
literal_by_bools true false = inr refl
literal_by_bools false true = inr refl
literal_by_bools false false = inl refl

pub literal_cases : (a : List Bool) (l : Literal) → (literal_value a l ≡ 1) ⊎ (literal_value a l ≡ 0)
literal_cases a l = literal_by_bools l.positive (get_or a (l.var - 1) false)

-- so a term is worth its coefficient or nothing
pub term_value-le : (a : List Bool) (t : Term) → unsigned_abs (term_value a t) ≤ unsigned_abs t.coef
term_value-le a t = elim (literal_cases a t.lit) [
  | inl holds ↦ (let same = ap unsigned_abs (term_value-true a t holds) in omega arith)
  | inr fails ↦ (let same = ap unsigned_abs (term_value-false a t fails) in omega arith)
]

pub sum_value-le : SumIsWithinMagnitude
sum_value-le a [] = omega arith
sum_value-le a (t ∷ terms) =
    let all = ap unsigned_abs (sum_value-cons a t terms) in
    let both = unsigned_abs-add (term_value a t) (sum_value a terms) in
    let first = term_value-le a t in
    let rest = sum_value-le a terms in
    let magnitudes = sum_by-cons (λ (u : Term). unsigned_abs u.coef) t terms in
    omega arith

objective_value-le : (a : List Bool) (objective : Option (List Term)) → option_map_or (λ terms. total_magnitude terms) objective 0 ≤ SUM_BOUND → unsigned_abs (option_map_or (λ terms. sum_value a terms) objective (pos 0)) ≤ SUM_BOUND
objective_value-le a None small = omega arith
objective_value-le a (Some terms) small = let sum = sum_value-le a terms in omega arith

pub cost-le : CostIsWithinBound
cost-le p a proper = objective_value-le a p.objective proper.limits.objective_sum
