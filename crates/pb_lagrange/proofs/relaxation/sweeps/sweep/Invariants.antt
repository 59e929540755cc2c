use Rattle.pb_saddle.specs.Shifting.{IsSameButShifted}
use Rattle.pb_lagrange.proofs.relaxation.sweeps.sweep.Given as goal

abbrev pub invariant-loop-place : goal.invariant-loop-place
invariant-loop-place g l = IsSameButShifted l.initial.multipliers l.multipliers
