use Rattle.std.proofs.Common.{◌-◌, ◌≤◌, length}
use Rattle.pb_bits.specs.RowSet.{HasNoneBetween}
use Rattle.pb_bits.proofs.bits.BitsFlags.next.Given as goal

abbrev pub invariant-loop-place : goal.invariant-loop-place
invariant-loop-place l = record { low : l.from ≤ l.place; none : HasNoneBetween l.self l.from l.place }

abbrev pub decreases-loop-place : goal.decreases-loop-place
decreases-loop-place l = length l.self - l.place
