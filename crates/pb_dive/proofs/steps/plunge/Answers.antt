use Rattle.pb_engine.specs.EngineState.{is_conflict}
use Rattle.pb_dive.proofs.DiveLemmas.{leads_on}
use Rattle.pb_dive.proofs.steps.plunge.Goals as goal

pub returns-clause-back : goal.returns-clause-back
returns-clause-back g c start h = leads_on start c.args.engine.now c.assume.new.self c.propagate.new.self c.args.lit c.propagate.new.self.trail (is_conflict c.assume.result) (is_conflict c.propagate.result) c.requires.sound c.assume.ensures.sound c.assume.ensures.assumed c.propagate.ensures.added c.propagate.ensures.forced h
