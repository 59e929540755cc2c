use Rattle.std.proofs.Common.{◌-◌, length}
use Rattle.pb_saddle.specs.Shifting.{IsSameButShifted}
use Rattle.pb_lagrange.proofs.relaxation.Relaxation.tighten.Given as goal

abbrev pub invariant-loop-row : goal.invariant-loop-row
invariant-loop-row g l = IsSameButShifted l.initial.self l.self

abbrev pub decreases-loop-row : goal.decreases-loop-row
decreases-loop-row g l = length l.self.form.rows - l.from
