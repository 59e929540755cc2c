use Rattle.std.proofs.Common.{ℕ, ◌+◌, ◌<◌, get_or}
use Rattle.pb_parts.proofs.fitting.are_rising.Given as goal

-- the numbers before this place rise
abbrev pub invariant-loop-place : goal.invariant-loop-place
invariant-loop-place l = (k : ℕ) → k + 1 < l.place → get_or l.numbers k 0 < get_or l.numbers (k + 1) 0
