use Rattle.std.proofs.Common.{◌≡◌, ◌+◌, ◌<◌, ℕ, length, take, get_or}
use Rattle.pb_rows.specs.Index.{total_by}
use Rattle.pb_row_bound.specs.Deficits.{are_open}
use Rattle.pb_row_bound.proofs.deficits.lower.Given as goal

abbrev pub invariant-loop-occurrence : goal.invariant-loop-occurrence
invariant-loop-occurrence g l = record {
  lowered : (r : ℕ) → r < length l.deficits → get_or l.deficits r 0 + total_by g.O.Occurs.occurrence r (take l.occurrence-index l.occurrences) ≡ get_or l.initial.deficits r 0;
  open_rows : l.open_rows ≡ are_open g.C.Coefficient.limit l.deficits;
}
