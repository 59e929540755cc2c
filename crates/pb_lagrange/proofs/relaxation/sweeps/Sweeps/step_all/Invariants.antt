use Rattle.pb_saddle.specs.Shifting.{IsSameButShifted}
use Rattle.pb_lagrange.proofs.relaxation.sweeps.Sweeps.step_all.Given as goal

abbrev pub invariant-loop-number : goal.invariant-loop-number
invariant-loop-number g l = IsSameButShifted l.initial.multipliers l.multipliers
