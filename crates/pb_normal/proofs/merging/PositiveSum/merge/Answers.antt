use Rattle.std.proofs.Common.{ℤ, List, sym, subst, arith, rules, FitsSigned}
use Rattle.std.specs.List.Sorted.{IsNonDecreasingBy}
use Rattle.std.proofs.lemmas.Int.{to_z-of_z}
use Rattle.std.proofs.lemmas.List.Sorted.{IsNonDecreasingBy-from_sort_by_key}
use Rattle.pb_inst.proofs.NumberWidth.{number_width}
use Rattle.pb_inst.specs.declared.constraints.Term.{Term}
use Rattle.pb_normal.specs.Merging.{HasValueOf}
use Rattle.pb_normal.proofs.SortLemmas.{total_magnitude-IsPermutation, AllVariablesWithin-IsPermutation, HasValueOf-IsPermutation, sorted_copy}
use Rattle.pb_normal.proofs.merging.PositiveSum.merge.Goals as goal

pub merge_sorted-requires-clause-sorted : goal.merge_sorted-requires-clause-sorted
merge_sorted-requires-clause-sorted c = subst (λ (ts : List Term). IsNonDecreasingBy (λ (t : Term). t.lit.var) ts) (sym c.deref.ensures.value) (IsNonDecreasingBy-from_sort_by_key (λ (t : Term). t.lit.var) _ c.sort_unstable_by_key.ensures.sorted (λ a r q k. search rules))

pub merge_sorted-requires-clause-bounded : goal.merge_sorted-requires-clause-bounded
merge_sorted-requires-clause-bounded c =
    let size = total_magnitude-IsPermutation _ _ (sorted_copy c.args.terms.now _ _ _ c.in_ok-copy_into.ensures c.sort_unstable_by_key.ensures.permutation c.deref.ensures.value) in
    omega arith

pub returns-clause-value : goal.returns-clause-value
returns-clause-value c =
    let same = sorted_copy c.args.terms.now _ _ _ c.in_ok-copy_into.ensures c.sort_unstable_by_key.ensures.permutation c.deref.ensures.value in
    let fits : FitsSigned number_width c.in_ok-self.field-0 = search rules in
    subst (λ (base : ℤ). HasValueOf c.args.terms.now base c.merge_sorted.new.merged.items) (sym (to_z-of_z number_width c.in_ok-self.field-0 fits)) (HasValueOf-IsPermutation c.args.terms.now c.deref.result.now c.in_ok-self.field-0 c.merge_sorted.new.merged.items same c.in_ok-self.ensures.value)

pub returns-clause-positive : goal.returns-clause-positive
returns-clause-positive c =
    let same = sorted_copy c.args.terms.now _ _ _ c.in_ok-copy_into.ensures c.sort_unstable_by_key.ensures.permutation c.deref.ensures.value in
    λ n within. c.in_ok-self.ensures.positive n (AllVariablesWithin-IsPermutation n c.args.terms.now c.deref.result.now same within)
