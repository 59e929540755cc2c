use Rattle.std.proofs.Common.{ap, ◌∙◌}
use Rattle.pb_engine.specs.EngineState.{EngineState, is_conflict}
use Rattle.pb_subtree.proofs.Engines.{assumed}
use Rattle.pb_subtree.proofs.root.assume_free.Goals as goal

pub returns-clause-assumed : goal.returns-clause-assumed
returns-clause-assumed g c = rw c.settle_last.ensures (assumed c.args.engine.now c.assume.new.self c.args.lit (is_conflict c.assume.result) c.requires.sound c.assume.ensures.assumed)

pub returns-clause-no_conflict : goal.returns-clause-no_conflict
returns-clause-no_conflict g c = ap (λ (e : EngineState). e.conflict) (c.settle_last.ensures ∙ c.assume.ensures.assumed) ∙ ap is_conflict c.assume.ensures.fixed
