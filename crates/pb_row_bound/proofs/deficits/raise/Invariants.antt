use Rattle.std.proofs.Common.{◌≡◌, ◌+◌, ◌<◌, ℕ, length, take, get_or}
use Rattle.pb_rows.specs.Index.{total_by}
use Rattle.pb_row_bound.specs.Deficits.{are_open}
use Rattle.pb_row_bound.proofs.deficits.raise.Given as goal

abbrev pub invariant-loop-occurrence : goal.invariant-loop-occurrence
invariant-loop-occurrence g l = record {
  raised : (r : ℕ) → r < length l.deficits → get_or l.deficits r 0 ≡ get_or l.initial.deficits r 0 + total_by g.O.Occurs.occurrence r (take l.occurrence-index l.occurrences);
  open_rows : l.open_rows ≡ are_open g.C.Coefficient.limit l.deficits;
}
