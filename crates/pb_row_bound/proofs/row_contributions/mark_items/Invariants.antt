use Rattle.std.proofs.Common.{◌≡◌, take, map}
use Rattle.pb_row_bound.specs.DisjointRows.{marked_by}
use Rattle.pb_row_bound.proofs.row_contributions.mark_items.Given as goal

abbrev pub invariant-loop-item : goal.invariant-loop-item
invariant-loop-item g l = l.marks ≡ marked_by l.trail.trail l.initial.marks (take l.item-index (map g.T.Weighs.term l.items))
