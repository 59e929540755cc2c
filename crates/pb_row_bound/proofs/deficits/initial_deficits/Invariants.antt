use Rattle.std.proofs.Common.{◌≡◌, ◌<◌, ℕ, [], length, get_or}
use Rattle.pb_rows.specs.Constraints.{row_at}
use Rattle.pb_row_bound.specs.Deficits.{IsDeficitOf}
use Rattle.pb_row_bound.proofs.deficits.initial_deficits.Given as goal

abbrev pub invariant-loop-row : goal.invariant-loop-row
invariant-loop-row g l = record {
  count : length l.deficits.items ≡ l.row;
  each : (r : ℕ) → r < l.row → IsDeficitOf g.C.Coefficient.limit l.tables.form.objective [] (row_at l.tables.rows r) (get_or l.deficits.items r 0);
}
