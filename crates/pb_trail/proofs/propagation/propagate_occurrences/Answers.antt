use Rattle.std.proofs.Common.{◌≡◌, ◌+◌, ◌<◌, take, get_or, ap, ◌∙◌, arith, refl, inl, inr}
use Rattle.std.proofs.lemmas.Bool.{cases_eq}
use Rattle.std.proofs.lemmas.List.{take_all}
use Rattle.pb_rows.specs.Occurrences.{Occurrence}
use Rattle.pb_rows.specs.Index.{total_by}
use Rattle.pb_rows.proofs.TableLemmas.{total_by-nil, total_by-other}
use Rattle.pb_trail.proofs.CompletionLemmas.{AddsForced-trans}
use Rattle.pb_trail.proofs.Looking.{looked_through_none, looked_through_next}
use Rattle.pb_trail.proofs.propagation.propagate_occurrences.Goals as goal

pub loop-occurrence-init : goal.loop-occurrence-init
loop-occurrence-init g c = looked_through_none c.args.tables.now c.args.trail.now (λ r. 0 < total_by g.O.Occurs.occurrence r (take 0 c.args.occurrences.now)) c.requires.up_to_date (λ r h. omega (arith, total_by-nil g.O.Occurs.occurrence r))

pub propagate_constraint-requires-clause-row : goal.propagate_constraint-requires-clause-row
propagate_constraint-requires-clause-row g c =
    let i = c.loop-occurrence.occurrence-index in
    let item = c.occurrence-item.result in
    let f = g.O.Occurs.occurrence in
    let same = ap (λ (o : Occurrence). o.row) (ap f c.occurrence-item.is) in
    let exists = c.requires.rows_exist i item c.loop-occurrence-test.true in
    let row = c.row.ensures in
    omega arith

pub returns-in-Conflict-clause-forced : goal.returns-in-Conflict-clause-forced
returns-in-Conflict-clause-forced g c = AddsForced-trans c.args.tables.now.rows c.args.trail.now.lits c.loop-occurrence.trail.lits c.propagate_constraint.new.trail.lits c.loop-occurrence.invariant.forced c.in-Conflict.ensures.forced

pub loop-occurrence-preserved : goal.loop-occurrence-preserved
loop-occurrence-preserved g c =
    let i = c.loop-occurrence.occurrence-index in
    let list = c.args.occurrences.now in
    let item = c.occurrence-item.result in
    let f = g.O.Occurs.occurrence in
    let same : f item ≡ f (get_or list i item) = ap f c.occurrence-item.is in
    let row_is : c.row.result ≡ (f (get_or list i item)).row = c.row.ensures ∙ ap (λ (o : Occurrence). o.row) same in
    looked_through_next c.args.tables.now c.args.trail.now c.loop-occurrence.trail c.propagate_constraint.new.trail (λ r. 0 < total_by f r (take i list)) (λ r. 0 < total_by f r (take (i + 1) list)) c.row.result c.loop-occurrence.invariant c.in_default.ensures.up_to_date c.in_default.ensures.forced (c.in_default.ensures.settled refl)
    (λ r h. elim (cases_eq c.row.result r) [
      | inl at ↦ inr at
      | inr other ↦ inl (omega (arith, total_by-other f list i item r c.loop-occurrence-test.true (λ e. other (row_is ∙ e))))
    ])

pub returns-clause-settled : goal.returns-clause-settled
returns-clause-settled g c = λ fixed r head occurs low.
    let list = c.args.occurrences.now in
    let i = c.loop-occurrence.occurrence-index in
    let all : take i list ≡ list = take_all i list (omega arith) in
    let some = ap (λ xs. total_by g.O.Occurs.occurrence r xs) all in
    c.loop-occurrence.invariant.settled r head (omega arith) low
