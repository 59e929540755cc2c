use Rattle.std.proofs.Common.{◌≡◌, ℕ, ◌≤◌, [], List, length, map, get_or, All, ap, ◌∙◌, arith, subst, inl, inr}
use Rattle.std.proofs.lemmas.Bool.{cases_lt}
use Rattle.pb_inst.specs.Literal.{Literal}
use Rattle.pb_rows.specs.Index.{entries_from}
use Rattle.pb_rows.specs.Clauses.{clause_row}
use Rattle.pb_rows.proofs.ClauseEntryLemmas.{clause_entries_from-next}
use Rattle.pb_rows.proofs.clauses.entries_of.Goals as goal

abbrev IsFromOne : Literal → Type 0
IsFromOne m = 1 ≤ m.var

pub loop-i-preserved : goal.loop-i-preserved
loop-i-preserved g c = (
  (let pushed = c.in_ok-push_entries.ensures.entries in
      clause_entries_from-next c.args.first c.args.clauses.now c.loop-i.i c.list.result.now c.loop-i.entries.items _ (omega arith) c.list.ensures c.loop-i.invariant.0 pushed),
  λ k h. elim (cases_lt k c.loop-i.i) [
    | inl early ↦ c.loop-i.invariant.1 k early
    | inr late ↦
        (let at : c.loop-i.i ≡ k = omega arith in
        let here : All IsFromOne (get_or c.args.clauses.now c.loop-i.i []) = subst (λ (ls : List Literal). All IsFromOne ls) c.list.ensures c.in_ok-push_entries.ensures.from_one in
        subst (λ (j : ℕ). All IsFromOne (get_or c.args.clauses.now j [])) at here)
  ],
)

pub returns-clause-entries : goal.returns-clause-entries
returns-clause-entries g c =
    let all : c.loop-i.i ≡ length c.args.clauses.now = omega (arith, c.len-i-end.ensures.value) in
    c.loop-i.invariant.0 ∙ ap (entries_from c.args.first (map clause_row c.args.clauses.now)) all

pub returns-clause-from_one : goal.returns-clause-from_one
returns-clause-from_one g c = λ k h. c.loop-i.invariant.1 k (omega (arith, c.len-i-end.ensures.value))
