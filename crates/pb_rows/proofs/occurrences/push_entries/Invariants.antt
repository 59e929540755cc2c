use Rattle.std.proofs.Common.{◌≡◌, ◌≤◌, ◌++◌, take, map, All}
use Rattle.pb_rows.specs.Index.{entries_of_row}
use Rattle.pb_rows.proofs.occurrences.push_entries.Given as goal

abbrev pub invariant-loop-item : goal.invariant-loop-item
invariant-loop-item g l = (l.entries.items ≡ l.initial.entries.items ++ entries_of_row l.row (map g.T.Weighs.term (take l.item-index l.items))) × All (λ item. 1 ≤ (g.T.Weighs.term item).lit.var) (take l.item-index l.items)
