use Rattle.pb_prune.specs.Subtree.{HasOnesWithin}
use Rattle.pb_prune.proofs.agreed_prefix.agreed_from.Given as goal

abbrev pub invariant-loop-place : goal.invariant-loop-place
invariant-loop-place g l = HasOnesWithin l.engine.trail l.held 0 l.place
