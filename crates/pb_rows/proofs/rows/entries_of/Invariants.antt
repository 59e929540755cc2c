use Rattle.std.proofs.Common.{◌≡◌}
use Rattle.pb_rows.specs.Index.{entries_from}
use Rattle.pb_rows.proofs.rows.entries_of.Given as goal

abbrev pub invariant-loop-row : goal.invariant-loop-row
invariant-loop-row g l = l.entries.items ≡ entries_from 0 l.form.rows l.row
