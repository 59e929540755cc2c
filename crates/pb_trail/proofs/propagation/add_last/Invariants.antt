use Rattle.pb_trail.proofs.Looking.{IsLookedAt}
use Rattle.pb_trail.proofs.propagation.add_last.Given as goal

abbrev pub invariant-loop-lit : goal.invariant-loop-lit
invariant-loop-lit g l = IsLookedAt l.tables l.initial.trail l.trail l.row 0 l.lit-index
