use Rattle.std.proofs.Common.{◌≡◌, map, take}
use Rattle.pb_rows.specs.Index.{unit_occurrence}
use Rattle.pb_rows.proofs.clauses.units.Given as goal

abbrev pub invariant-loop-occurrence : goal.invariant-loop-occurrence
invariant-loop-occurrence g l = l.units.items ≡ map unit_occurrence (take l.occurrence-index l.occurrences)
