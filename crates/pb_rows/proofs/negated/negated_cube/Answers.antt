use Rattle.std.proofs.Common.{List, sym, subst, rules}
use Rattle.std.specs.List.Sorted.{IsNonDecreasingBy}
use Rattle.std.proofs.lemmas.List.Sorted.{IsNonDecreasingBy-from_sort_by_key}
use Rattle.pb_inst.specs.Literal.{Literal}
use Rattle.std.proofs.lemmas.Result.{IfOk-weaker}
use Rattle.pb_rows.specs.Clauses.{clause_row}
use Rattle.pb_rows.proofs.NegatedLemmas.{sorted_copy, clause_of_sorted, contradictory_sorted}
use Rattle.pb_rows.proofs.negated.negated_cube.Goals as goal

pub negated_by_variable-requires : goal.negated_by_variable-requires
negated_by_variable-requires c = record { sorted = subst (λ (ls : List Literal). IsNonDecreasingBy (λ (l : Literal). l.var) ls) (sym c.deref.ensures.value) (IsNonDecreasingBy-from_sort_by_key (λ (l : Literal). l.var) _ c.sort_unstable_by_key.ensures.sorted (λ a r q k. search rules)) }

pub returns-clause-none : goal.returns-clause-none
returns-clause-none c =
    let same = sorted_copy c.args.cube.now _ _ _ _ c.new-sorted.ensures.items c.in_ok-extend_from_slice.ensures.items c.sort_unstable_by_key.ensures.permutation c.deref.ensures.value in
    IfOk-weaker c.negated_by_variable.result _ _ (λ clause h none. contradictory_sorted c.args.cube.now c.deref.result.now same (h none)) c.negated_by_variable.ensures.none

pub returns-clause-some : goal.returns-clause-some
returns-clause-some c =
    let same = sorted_copy c.args.cube.now _ _ _ _ c.new-sorted.ensures.items c.in_ok-extend_from_slice.ensures.items c.sort_unstable_by_key.ensures.permutation c.deref.ensures.value in
    IfOk-weaker c.negated_by_variable.result _ _ (λ clause h lits is. clause_of_sorted c.args.cube.now c.deref.result.now (clause_row lits.items) same (h lits is)) c.negated_by_variable.ensures.some
