use Rattle.std.proofs.Common.{◌≡◌, length}
use Rattle.pb_lagrange.proofs.relaxation.schedule.touch_rows.Given as goal

abbrev pub invariant-loop-occurrence : goal.invariant-loop-occurrence
invariant-loop-occurrence g l = length l.touched ≡ length l.initial.touched
