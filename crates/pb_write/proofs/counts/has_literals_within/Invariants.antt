use Rattle.std.proofs.Common.{◌≡◌, ◌+◌, take, length}
use Rattle.std.specs.Prelude.{sum_by}
use Rattle.pb_write.proofs.counts.has_literals_within.Given as goal

-- what is left beside the cubes so far
abbrev pub invariant-loop-cube : goal.invariant-loop-cube
invariant-loop-cube l = l.left + sum_by length (take l.cube-index l.cubes) ≡ l.most
