use Rattle.std.proofs.Common.{◌≡◌, ◌<◌, ◌≤◌, ℕ, [], map, All, get_or}
use Rattle.pb_rows.specs.Clauses.{clause_row}
use Rattle.pb_rows.specs.Index.{entries_from}
use Rattle.pb_rows.proofs.clauses.entries_of.Given as goal

abbrev pub invariant-loop-i : goal.invariant-loop-i
invariant-loop-i g l = (l.entries.items ≡ entries_from l.first (map clause_row l.clauses) l.i) × ((k : ℕ) → k < l.i → All (λ m. 1 ≤ m.var) (get_or l.clauses k []))
