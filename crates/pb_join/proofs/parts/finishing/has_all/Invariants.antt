use Rattle.std.proofs.Common.{ℕ, ◌<◌, Contains}
use Rattle.pb_join.proofs.parts.finishing.has_all.Given as goal

-- the pieces so far are among those that are named
abbrev pub invariant-loop-piece : goal.invariant-loop-piece
invariant-loop-piece l = (i : ℕ) → i < l.piece → Contains l.named i
