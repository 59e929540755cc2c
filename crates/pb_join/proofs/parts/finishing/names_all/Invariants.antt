use Rattle.std.proofs.Common.{ℕ, ◌+◌, ◌*◌, ◌<◌, Contains}
use Rattle.pb_join.proofs.parts.finishing.names_all.Given as goal

-- the pieces of the turns so far are among those that are named
abbrev pub invariant-loop-turn : goal.invariant-loop-turn
invariant-loop-turn l = (turn : ℕ) → turn < l.turn → Contains l.named (turn * l.division.tasks + l.task)
