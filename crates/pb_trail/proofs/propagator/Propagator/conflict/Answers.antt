use Rattle.std.proofs.Common.{subst}
use Rattle.std.specs.Vec.{vec_capacity}
use Rattle.pb_trail.specs.EngineState.{EngineState}
use Rattle.pb_trail.specs.Completion.{HasNoCompletion}
use Rattle.pb_trail.specs.Soundness.{IsSoundTrail}
use Rattle.pb_trail.proofs.EngineLemmas.{sound-IsEngine}
use Rattle.pb_trail.proofs.propagator.Propagator.conflict.Goals as goal

pub returns-clause-sound : goal.returns-clause-sound
returns-clause-sound g c =
    let inside = c.self.inside in
    subst IsSoundTrail c.self.view_is (sound-IsEngine inside.source.form inside.source.vars inside.source.rows inside.trail.lits inside.levels.items inside.propagated inside.conflict inside.conflict (vec_capacity inside.levels) c.self.invariant.engine)

pub returns-clause-no_completion : goal.returns-clause-no_completion
returns-clause-no_completion g c = λ found.
    subst (λ (e : EngineState). HasNoCompletion e.rows e.trail) c.self.view_is (c.self.invariant.engine.stands found)
