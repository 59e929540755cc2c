use Rattle.std.proofs.Common.{ℕ, ◌+◌, ◌<◌, ◌≤◌, ◌≢◌, None}
use Rattle.pb_trail.specs.Trail.{value_on}
use Rattle.pb_engine.proofs.free.settled_from.Given as goal

abbrev pub invariant-loop-place : goal.invariant-loop-place
invariant-loop-place g l = (k : ℕ) → l.fn.from ≤ k → k < l.place → value_on l.engine.trail (k + 1) ≢ None
