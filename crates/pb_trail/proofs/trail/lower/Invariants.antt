use Rattle.std.proofs.Common.{◌≡◌, ◌+◌, ◌<◌, ℕ, length, take, get_or}
use Rattle.pb_rows.specs.Index.{total_by}
use Rattle.pb_trail.proofs.trail.lower.Given as goal

abbrev pub invariant-loop-occurrence : goal.invariant-loop-occurrence
invariant-loop-occurrence g l =
    (r : ℕ) → r < length l.sums → get_or l.sums r 0 + total_by g.O.Occurs.occurrence r (take l.occurrence-index l.occurrences) ≡ get_or l.initial.sums r 0
