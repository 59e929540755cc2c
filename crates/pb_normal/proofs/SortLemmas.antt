-- Terms in another order have the same sum, the same magnitude and the same variables.
use Rattle.std.proofs.Common.{◌≡◌, ℕ, ℤ, ◌≤◌, List, sym, ◌∙◌, subst, arith}
use Rattle.std.specs.Prelude.{unsigned_abs, ◌+ℤ◌, ◌≤ℤ◌, pos}
use Rattle.std.specs.List.Sorted.{IsPermutation}
use Rattle.std.proofs.lemmas.List.Sorted.{sum_by-IsPermutation, All-permutation, length_permutation}
use Rattle.pb_inst.specs.Limits.{total_magnitude, AllVariablesWithin}
use Rattle.pb_inst.specs.declared.constraints.Term.{Term}
use Rattle.pb_normal.specs.declared.terms.PositiveTerm.{PositiveTerm}
use Rattle.pb_normal.specs.NormalForm.{total_coefficient}
use Rattle.pb_normal.specs.Merging.{HasValueOf}
use Rattle.pb_normal.proofs.NormalLemmas.{sum_value-IsPermutation}

pub total_magnitude-IsPermutation : (xs ys : List Term) → IsPermutation xs ys → total_magnitude ys ≡ total_magnitude xs
total_magnitude-IsPermutation xs ys same = sum_by-IsPermutation (λ (t : Term). unsigned_abs t.coef) xs ys same

pub AllVariablesWithin-IsPermutation : (n : ℕ) (xs ys : List Term) → IsPermutation xs ys → AllVariablesWithin n xs → AllVariablesWithin n ys
AllVariablesWithin-IsPermutation n xs ys same all = All-permutation (λ (t : Term). (1 ≤ t.lit.var) × (t.lit.var ≤ n)) xs ys same all

pub HasValueOf-IsPermutation : (xs ys : List Term) (base : ℤ) (merged : List PositiveTerm) → IsPermutation xs ys → HasValueOf ys base merged → HasValueOf xs base merged
HasValueOf-IsPermutation xs ys base merged same h =
    let size = total_magnitude-IsPermutation xs ys same in
    record {
      value = λ a. h.value a ∙ sum_value-IsPermutation a xs ys same;
      lowest = subst (λ (m : ℕ). unsigned_abs base ≤ m) size h.lowest;
      total = (let most = h.total in omega arith);
      highest = subst (λ (m : ℕ). (base +ℤ pos (total_coefficient merged)) ≤ℤ pos m) size h.highest;
      count = (let len = length_permutation xs ys same in let few = h.count in omega arith);
    }

-- a copy that has been sorted
pub sorted_copy : (terms copied sorted seen : List Term) → copied ≡ terms → IsPermutation copied sorted → seen ≡ sorted → IsPermutation terms seen
sorted_copy terms copied sorted seen all same see = subst (λ (ts : List Term). IsPermutation terms ts) (sym see) (subst (λ (ts : List Term). IsPermutation ts sorted) all same)
