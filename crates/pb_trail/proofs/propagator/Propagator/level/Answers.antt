use Rattle.std.proofs.Common.{length, ap, arith, subst}
use Rattle.std.specs.Vec.{vec_capacity}
use Rattle.pb_trail.specs.EngineState.{EngineState}
use Rattle.pb_trail.specs.Soundness.{IsSoundTrail}
use Rattle.pb_trail.proofs.EngineLemmas.{length-starts_of, sound-IsEngine}
use Rattle.pb_trail.proofs.propagator.Propagator.level.Goals as goal

pub returns-clause-count : goal.returns-clause-count
returns-clause-count g c =
    let count = length-starts_of c.self.inside.levels.items in
    let view = ap (λ (e : EngineState). length e.levels) c.self.view_is in
    omega arith

pub returns-clause-sound : goal.returns-clause-sound
returns-clause-sound g c =
    let inside = c.self.inside in
    subst IsSoundTrail c.self.view_is (sound-IsEngine inside.source.form inside.source.vars inside.source.rows inside.trail.lits inside.levels.items inside.propagated inside.conflict inside.conflict (vec_capacity inside.levels) c.self.invariant.engine)
