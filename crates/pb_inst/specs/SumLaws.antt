-- Laws of sums of terms, and the range of a cost.
use Rattle.std.specs.Prelude.{◌≡◌, ◌≤◌, Bool, List, ◌∷◌, ◌++◌, ◌+ℤ◌, unsigned_abs}
use Rattle.pb_inst.specs.declared.constraints.Term.{Term}
use Rattle.pb_inst.specs.declared.limits.TheConstants.{SUM_BOUND}
use Rattle.pb_inst.specs.Problem.{Problem}
use Rattle.pb_inst.specs.Meaning.{term_value, sum_value, cost}
use Rattle.pb_inst.specs.Limits.{total_magnitude, IsProper}

-- the first term and the others
abbrev pub SumOfTermAndRest : Type 0
SumOfTermAndRest = (a : List Bool) (t : Term) (terms : List Term) → sum_value a (t ∷ terms) ≡ term_value a t +ℤ sum_value a terms

-- two lists of terms, one after the other
abbrev pub SumOfTwoLists : Type 0
SumOfTwoLists = (a : List Bool) (xs ys : List Term) → sum_value a (xs ++ ys) ≡ sum_value a xs +ℤ sum_value a ys

-- no sum is greater, nor its negation, than the sum of the absolute coefficients
abbrev pub SumIsWithinMagnitude : Type 0
SumIsWithinMagnitude = (a : List Bool) (terms : List Term) → unsigned_abs (sum_value a terms) ≤ total_magnitude terms

-- so the cost of an assignment keeps the bound on sums
abbrev pub CostIsWithinBound : Type 0
CostIsWithinBound = (p : Problem) (a : List Bool) → IsProper p → unsigned_abs (cost p a) ≤ SUM_BOUND
