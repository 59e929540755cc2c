use Rattle.pb_prune.specs.AgreedPrefix.{KnowsPrefix}
use Rattle.pb_prune.proofs.agreed_prefix.AgreedPrefix.forget_down_to.Given as goal

abbrev pub invariant-loop-place : goal.invariant-loop-place
invariant-loop-place g l = KnowsPrefix l.engine.trail l.held l.self
