use Rattle.std.proofs.Common.{List, [], ◌∙◌, ap, subst, false, rules}
use Rattle.pb_inst.specs.Literal.{Literal}
use Rattle.pb_trail.specs.declared.propagator.Level.{Level}
use Rattle.pb_trail.specs.EngineState.{EngineState}
use Rattle.pb_rows.specs.Constraints.{Constraints}
use Rattle.pb_trail.specs.Tracked.{IsUpToDate}
use Rattle.pb_trail.specs.Levels.{starts_of}
use Rattle.pb_trail.proofs.propagator.Propagator.new.Goals as goal

pub returns : goal.returns
unfolding starts_of
returns g c =
    ap (λ (t : List Literal). let e : EngineState = record { form = c.args.source.form; vars = c.args.source.vars; rows = c.args.source.rows; trail = t; levels = starts_of c.in_ok-levels.levels.items; conflict = false } in e) c.in_ok-trail.ensures.empty
    ∙ ap (λ (ls : List Level). let e : EngineState = record { form = c.args.source.form; vars = c.args.source.vars; rows = c.args.source.rows; trail = []; levels = starts_of ls; conflict = false } in e) c.in_ok-levels.ensures.items

pub invariant_of-result : goal.invariant_of-result
invariant_of-result g c = record {
  up_to_date = subst (λ (over : Constraints). IsUpToDate over c.in_ok-trail.trail) c.tables-tables.ensures c.in_ok-trail.ensures.up_to_date;
  engine = search rules;
}
