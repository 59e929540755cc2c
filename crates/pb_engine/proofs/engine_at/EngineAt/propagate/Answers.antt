use Rattle.std.proofs.Common.{◌≡◌, ap, sym, subst}
use Rattle.std.specs.Prelude.{IfSome}
use Rattle.pb_normal.specs.NormalForm.{NormalForm}
use Rattle.pb_trail.specs.EngineState.{EngineState, is_conflict}
use Rattle.pb_trail.specs.Steps.{Propagates}
use Rattle.pb_lagrange.specs.Relaxation.{IsBeside}
use Rattle.pb_engine.proofs.RelaxedLemmas.{beside-if-forced}
use Rattle.pb_engine.proofs.LongerLemmas.{standing-longer, front-forced}
use Rattle.pb_row_bound.proofs.BesideLemmas.{HasCounters-propagated}
use Rattle.pb_engine.proofs.engine_at.EngineAt.propagate.Goals as goal

pub invariant_of-self : goal.invariant_of-self
invariant_of-self g c =
    let s = c.self.inside in
    let t = c.propagate.new.self in
    let form : t.form ≡ s.propagator.form = ap (λ (e : EngineState). e.form) c.propagate.ensures.added in
    let rows : t.rows ≡ s.propagator.rows = ap (λ (e : EngineState). e.rows) c.propagate.ensures.added in
    let beside = beside-if-forced s.propagator.form s.propagator.rows s.propagator.trail t.trail s.relaxation c.propagate.ensures.forced c.self.invariant.1 in
    let front = front-forced s.propagator.rows s.propagator.trail t.trail c.propagate.ensures.forced in
    (HasCounters-propagated s.propagator t s.deficits s.marks (is_conflict c.propagate.result) c.self.invariant.0 c.propagate.ensures.added c.propagate.ensures.forced, subst (λ (f : NormalForm). IfSome s.relaxation (λ m. IsBeside f t.trail m)) (sym form) beside, standing-longer s.propagator t s.standing form rows front c.self.invariant.2)

pub returns : goal.returns
returns g c = subst (λ (e : EngineState). Propagates e c.propagate.new.self c.propagate.result) c.self.view_is c.propagate.ensures
