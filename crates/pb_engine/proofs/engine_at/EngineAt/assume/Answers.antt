use Rattle.std.proofs.Common.{◌≡◌, subst}
use Rattle.pb_trail.specs.EngineState.{EngineState, is_conflict}
use Rattle.pb_trail.specs.Steps.{Assumes}
use Rattle.pb_engine.proofs.LongerLemmas.{counters-assumed, beside-assumed, standing-assumed}
use Rattle.pb_engine.proofs.engine_at.EngineAt.assume.Goals as goal

pub invariant_of-self : goal.invariant_of-self
invariant_of-self g c =
    let s = c.self.inside in
    let conflict = is_conflict c.assume.result in (
      counters-assumed s.propagator c.assume.new.self s.deficits s.marks c.args.lit conflict c.assume.ensures.assumed c.self.invariant.0,
      beside-assumed s.propagator c.assume.new.self s.relaxation c.args.lit conflict c.assume.ensures.assumed c.self.invariant.1,
      standing-assumed s.propagator c.assume.new.self s.standing c.args.lit conflict c.assume.ensures.assumed c.self.invariant.2,
    )

pub returns : goal.returns
returns g c =
    let same : c.self.inside.propagator ≡ c.args.self.now = cc in
    subst (λ (e : EngineState). Assumes e c.args.lit c.assume.new.self c.assume.result) same c.assume.ensures
