use Rattle.pb_saddle.specs.Shifting.{IsSameButShifted}
use Rattle.pb_saddle.proofs.pdhg.Pdhg.adopt.Given as goal

abbrev pub invariant-loop-row : goal.invariant-loop-row
invariant-loop-row g l = IsSameButShifted l.initial.multipliers l.multipliers
