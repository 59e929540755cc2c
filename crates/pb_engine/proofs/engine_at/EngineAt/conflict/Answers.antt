use Rattle.std.proofs.Common.{subst}
use Rattle.pb_trail.specs.Completion.{HasNoCompletion}
use Rattle.pb_trail.specs.EngineState.{EngineState}
use Rattle.pb_engine.proofs.engine_at.EngineAt.conflict.Goals as goal

pub returns-clause-no_completion : goal.returns-clause-no_completion
returns-clause-no_completion g c = λ found.
    subst (λ (e : EngineState). HasNoCompletion e.rows e.trail) c.self.view_is (c.conflict.ensures.no_completion found)
