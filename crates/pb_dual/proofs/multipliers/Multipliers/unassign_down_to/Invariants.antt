use Rattle.std.proofs.Common.{length}
use Rattle.pb_dual.proofs.TrailLemmas.{IsCutTo}
use Rattle.pb_dual.proofs.multipliers.Multipliers.unassign_down_to.Given as goal

abbrev pub invariant-loop-self : goal.invariant-loop-self
invariant-loop-self g l = IsCutTo l.initial.self l.self l.length

abbrev pub decreases-loop-self : goal.decreases-loop-self
decreases-loop-self g l = length l.self.trail
