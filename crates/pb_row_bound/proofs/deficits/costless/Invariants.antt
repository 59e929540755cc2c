use Rattle.std.proofs.Common.{◌≡◌, [], take, map}
use Rattle.pb_row_bound.specs.DisjointRows.{spare}
use Rattle.pb_row_bound.proofs.deficits.costless.Given as goal

abbrev pub invariant-loop-item : goal.invariant-loop-item
invariant-loop-item g l = l.sum ≡ spare l.tables.form.objective [] (take l.item-index (map g.T.Weighs.term l.items))
