use Rattle.std.proofs.Common.{rules, subst, sym}
use Rattle.pb_trail.specs.Tracked.{TrailState}
use Rattle.pb_trail.specs.Propagation.{AddsForced, nothing}
use Rattle.pb_trail.proofs.propagation.propagate_row.Goals as goal

pub returns-then-not-is_below : goal.returns-then-not-is_below
returns-then-not-is_below g c = record { up_to_date = search rules; forced = nothing; settled = search rules; broken = search rules }

pub returns-then-is_below : goal.returns-then-is_below
returns-then-is_below g c = record {
  up_to_date = search rules;
  forced = subst (λ (k : TrailState). AddsForced c.args.tables.now.rows c.args.trail.now.lits k.lits) (sym c.blame.ensures) nothing;
  settled = search rules;
  broken = search rules;
}
