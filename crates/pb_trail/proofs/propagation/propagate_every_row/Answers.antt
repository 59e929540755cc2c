use Rattle.std.proofs.Common.{◌+◌, ◌<◌, arith, refl, inl, inr}
use Rattle.std.proofs.lemmas.Bool.{cases_lt}
use Rattle.pb_trail.proofs.CompletionLemmas.{AddsForced-trans}
use Rattle.pb_trail.proofs.Looking.{looked_through_none, looked_through_next}
use Rattle.pb_trail.proofs.propagation.propagate_every_row.Goals as goal

pub loop-row-init : goal.loop-row-init
loop-row-init g c = looked_through_none c.args.tables.now c.args.trail.now (λ r. r < 0) c.requires.up_to_date (λ r h. omega arith)

pub returns-in-Conflict-clause-forced : goal.returns-in-Conflict-clause-forced
returns-in-Conflict-clause-forced g c = AddsForced-trans c.args.tables.now.rows c.args.trail.now.lits c.loop-row.trail.lits c.propagate_constraint.new.trail.lits c.loop-row.invariant.forced c.in-Conflict.ensures.forced

pub loop-row-preserved : goal.loop-row-preserved
loop-row-preserved g c = looked_through_next c.args.tables.now c.args.trail.now c.loop-row.trail c.propagate_constraint.new.trail (λ r. r < c.loop-row.row) (λ r. r < c.loop-row.row + 1) c.loop-row.row c.loop-row.invariant c.in_default.ensures.up_to_date c.in_default.ensures.forced (c.in_default.ensures.settled refl)
    (λ r h. elim (cases_lt r c.loop-row.row) [ inl early ↦ inl early | inr late ↦ inr (omega arith) ])

pub returns-clause-settled : goal.returns-clause-settled
returns-clause-settled g c = λ fixed r head exists low. c.loop-row.invariant.settled r head (omega arith) low
