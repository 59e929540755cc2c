use Rattle.std.proofs.Common.{◌≡◌, ℕ, ◌<◌, length, get_or, []}
use Rattle.pb_rows.specs.Constraints.{row_at}
use Rattle.pb_trail.specs.Trail.{reachable}
use Rattle.pb_trail.proofs.trail.totals.Given as goal

abbrev pub invariant-loop-row : goal.invariant-loop-row
invariant-loop-row g l =
    (length l.sums.items ≡ l.row) × ((r : ℕ) → r < l.row → get_or l.sums.items r 0 ≡ reachable [] (row_at l.tables.rows r).terms)
