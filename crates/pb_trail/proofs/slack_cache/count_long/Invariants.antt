use Rattle.std.proofs.Common.{◌≤◌}
use Rattle.pb_trail.proofs.slack_cache.count_long.Given as goal

abbrev pub invariant-loop-row : goal.invariant-loop-row
invariant-loop-row g l = l.count ≤ l.row
