use Rattle.std.proofs.Common.{◌≡◌, subst}
use Rattle.pb_trail.specs.Completion.{HasNoCompletion}
use Rattle.pb_trail.specs.EngineState.{EngineState}
use Rattle.pb_engine.proofs.engine.Engine.conflict.Goals as goal

pub returns-in-Narrow-clause-no_completion : goal.returns-in-Narrow-clause-no_completion
returns-in-Narrow-clause-no_completion c =
    let same : c.in-Narrow.engine ≡ c.args.self.now = cc in
    λ found. subst (λ (e : EngineState). HasNoCompletion e.rows e.trail) same (c.conflict.ensures.no_completion found)

pub returns-in-Wide-clause-no_completion : goal.returns-in-Wide-clause-no_completion
returns-in-Wide-clause-no_completion c =
    let same : c.in-Wide.engine ≡ c.args.self.now = cc in
    λ found. subst (λ (e : EngineState). HasNoCompletion e.rows e.trail) same (c.conflict-in-Wide.ensures.no_completion found)
