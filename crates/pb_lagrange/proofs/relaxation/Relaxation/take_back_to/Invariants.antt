use Rattle.std.proofs.Common.{length}
use Rattle.pb_saddle.specs.Shifting.{IsSameButShifted}
use Rattle.pb_lagrange.proofs.relaxation.Relaxation.take_back_to.Given as goal

abbrev pub invariant-loop : goal.invariant-loop
invariant-loop g l = IsSameButShifted l.initial.self l.self

abbrev pub decreases-loop : goal.decreases-loop
decreases-loop g l = length l.self.changes
