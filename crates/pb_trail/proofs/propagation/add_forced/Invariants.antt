use Rattle.pb_trail.proofs.Looking.{IsLookedAt}
use Rattle.pb_trail.proofs.propagation.add_forced.Given as goal

abbrev pub invariant-loop-term : goal.invariant-loop-term
invariant-loop-term g l = IsLookedAt l.tables l.initial.trail l.trail l.row l.slack l.term-index
