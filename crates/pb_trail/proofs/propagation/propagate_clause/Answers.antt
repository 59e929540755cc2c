use Rattle.std.proofs.Common.{rules, ◌-◌, ◌≤◌, sym, subst, arith}
use Rattle.pb_rows.specs.Constraints.{row_at}
use Rattle.pb_trail.specs.Tracked.{TrailState}
use Rattle.pb_trail.specs.Propagation.{AddsForced, nothing}
use Rattle.pb_count.proofs.CounterLemmas.{is_below-false}
use Rattle.pb_trail.proofs.Looking.{settled_by_widest}
use Rattle.pb_trail.proofs.propagation.propagate_clause.Goals as goal

pub returns-then-not-is_below : goal.returns-then-not-is_below
returns-then-not-is_below g c =
    let row = row_at c.args.tables.now.rows c.args.row in
    let unit = c.facts.ensures.units c.args.row c.requires.form c.requires.exists in
    let degree = unit.0 in
    let sum = c.requires.up_to_date.sums c.args.row c.requires.exists in
    let wide : 2 ≤ c.sum-reachable.result = omega (arith, is_below-false c.is_below.result c.sum-reachable.result c.of.result c.is_below.ensures c.if-not-is_below.true, c.of.ensures) in
    record {
      up_to_date = search rules;
      forced = nothing;
      settled = λ fixed head low. settled_by_widest c.args.trail.now.lits row (c.sum-reachable.result - 1) 1 head (omega arith) (omega arith) unit.1;
      broken = search rules;
    }

pub returns-then-is_zero : goal.returns-then-is_zero
returns-then-is_zero g c = record {
  up_to_date = search rules;
  forced = subst (λ (k : TrailState). AddsForced c.args.tables.now.rows c.args.trail.now.lits k.lits) (sym c.blame.ensures) nothing;
  settled = search rules;
  broken = search rules;
}
