use Rattle.std.proofs.Common.{subst, ap, ◌∙◌, arith, inl, inr}
use Rattle.std.specs.Vec.{vec_capacity}
use Rattle.pb_trail.specs.Trail.{value_on}
use Rattle.pb_trail.specs.EngineState.{EngineState}
use Rattle.pb_trail.specs.Soundness.{IsSoundTrail}
use Rattle.pb_trail.proofs.EngineLemmas.{sound-IsEngine}
use Rattle.pb_trail.proofs.SoundLemmas.{value_outside}
use Rattle.pb_trail.proofs.propagator.Propagator.value.Goals as goal
use Rattle.pb_trail.proofs.propagator.Propagator.value.Goals.{then-var-eq0-via-then-var-eq0, then-var-eq0-via-else-var-eq0+then-var-vars}

pub returns-then-var-eq0-clause-value : goal.returns-then-var-eq0-clause-value
returns-then-var-eq0-clause-value g c =
    let inside = c.self.inside in
    let same = ap (λ (e : EngineState). value_on e.trail c.args.var) c.self.view_is in
    elim c.then-var-eq0.branch [
      | then-var-eq0-via-then-var-eq0 w ↦ value_outside inside.source.vars inside.trail.lits c.args.var c.self.invariant.engine.proper (inl (omega arith)) ∙ same
      | then-var-eq0-via-else-var-eq0+then-var-vars w ↦ value_outside inside.source.vars inside.trail.lits c.args.var c.self.invariant.engine.proper (inr (omega (arith, w.vars.ensures, c.self.invariant.up_to_date.vars))) ∙ same
    ]

pub returns-then-var-eq0-clause-sound : goal.returns-then-var-eq0-clause-sound
returns-then-var-eq0-clause-sound g c =
    let inside = c.self.inside in
    subst IsSoundTrail c.self.view_is (sound-IsEngine inside.source.form inside.source.vars inside.source.rows inside.trail.lits inside.levels.items inside.propagated inside.conflict inside.conflict (vec_capacity inside.levels) c.self.invariant.engine)

pub returns-clause-sound : goal.returns-clause-sound
returns-clause-sound g c =
    let inside = c.self.inside in
    subst IsSoundTrail c.self.view_is (sound-IsEngine inside.source.form inside.source.vars inside.source.rows inside.trail.lits inside.levels.items inside.propagated inside.conflict inside.conflict (vec_capacity inside.levels) c.self.invariant.engine)
