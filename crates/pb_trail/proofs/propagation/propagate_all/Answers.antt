use Rattle.std.proofs.Common.{ℕ, ◌<◌, ◌≤◌, List, length, subst, ap, arith, refl, inl, inr}
use Rattle.std.proofs.lemmas.Bool.{cases_lt}
use Rattle.pb_inst.specs.Literal.{Literal}
use Rattle.pb_rows.specs.Constraints.{row_at}
use Rattle.pb_rows.specs.Index.{total_for}
use Rattle.pb_rows.specs.Occurrences.{Occurrence}
use Rattle.pb_normal.specs.Literals.{weight_of}
use Rattle.pb_normal.proofs.LiteralLemmas.{negation-is}
use Rattle.pb_trail.specs.Propagation.{IsSettledFrom}
use Rattle.pb_trail.proofs.CompletionLemmas.{AddsForced-trans, length-AddsForced, settled_from-AddsForced}
use Rattle.pb_trail.proofs.Looking.{propagated_none, propagated_next}
use Rattle.pb_trail.proofs.propagation.propagate_all.Goals as goal

pub loop-head-init : goal.loop-head-init
loop-head-init g c = propagated_none c.args.tables.now c.settled_from.new.trail c.in-Some.start c.in-Some.ensures.up_to_date c.in-Some.ensures.settled.0 c.in-Some.ensures.settled.1

pub returns-in-Conflict-clause-forced : goal.returns-in-Conflict-clause-forced
returns-in-Conflict-clause-forced g c =
    let rows = c.args.tables.now.rows in
    let before = AddsForced-trans rows c.args.trail.now.lits c.settled_from.new.trail.lits c.loop-head.trail.lits c.settled_from.ensures.forced c.loop-head.invariant.forced in
    AddsForced-trans rows c.args.trail.now.lits c.loop-head.trail.lits c.propagate_occurrences.new.trail.lits before c.propagate_occurrences.ensures.forced

pub returns-in-Conflict-propagate_occurrences-clause-forced : goal.returns-in-Conflict-propagate_occurrences-clause-forced
returns-in-Conflict-propagate_occurrences-clause-forced g c =
    let rows = c.args.tables.now.rows in
    let before = AddsForced-trans rows c.args.trail.now.lits c.settled_from.new.trail.lits c.loop-head.trail.lits c.settled_from.ensures.forced c.loop-head.invariant.forced in
    let first = AddsForced-trans rows c.args.trail.now.lits c.loop-head.trail.lits c.propagate_occurrences.new.trail.lits before c.propagate_occurrences.ensures.forced in
    AddsForced-trans rows c.args.trail.now.lits c.propagate_occurrences.new.trail.lits c.propagate_occurrences-in-loop-head.new.trail.lits first c.propagate_occurrences-in-loop-head.ensures.forced

pub returns-clause-forced : goal.returns-clause-forced
returns-clause-forced g c = AddsForced-trans c.args.tables.now.rows c.args.trail.now.lits c.settled_from.new.trail.lits c.loop-head.trail.lits c.settled_from.ensures.forced c.loop-head.invariant.forced

pub loop-head-preserved : goal.loop-head-preserved
loop-head-preserved g c =
    let tables = c.args.tables.now in
    let now = c.loop-head.trail in
    let middle = c.propagate_occurrences.new.trail in
    let new = c.propagate_occurrences-in-loop-head.new.trail in
    let first = c.propagate_occurrences.ensures.forced in
    let second = c.propagate_occurrences-in-loop-head.ensures.forced in
    let longer = length-AddsForced tables.rows now.lits middle.lits first in
    let negated = negation-is c.literal.result c.negate-falsified.result c.negate-falsified.ensures.same_variable c.negate-falsified.ensures.other_sign in
    let P : Literal → Type 0 = λ m. (r from : ℕ) → r < length tables.rows → 0 < weight_of m (row_at tables.rows r).terms → from ≤ length now.lits → IsSettledFrom from new.lits (row_at tables.rows r) in
    propagated_next tables c.settled_from.new.trail now new c.loop-head.head c.literal.result c.loop-head.invariant (omega arith) c.literal.ensures.value c.in_default-propagate_occurrences-2.ensures.up_to_date (AddsForced-trans tables.rows now.lits middle.lits new.lits first second)
    (subst P negated (λ r from exists occurs low.
    let row = row_at tables.rows r in
    let weights = c.occurrences.ensures.weights r exists in
    let list = ap (λ (os : List Occurrence). total_for r os) c.occurrences.ensures.value in
    let units = ap (λ (os : List Occurrence). total_for r os) c.units.ensures.value in
    elim (cases_lt 0 (total_for r c.occurrences.result.now)) [
      | inl some ↦ settled_from-AddsForced tables.rows middle.lits new.lits from row (omega arith) second (c.in_default-propagate_occurrences.ensures.settled refl r from some low)
      | inr none ↦ c.in_default-propagate_occurrences-2.ensures.settled refl r from (omega arith) (omega arith)
    ]))
