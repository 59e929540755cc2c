use Rattle.std.proofs.Common.{◌≡◌, ◌-◌, ◌++◌, length, take, replicate, false}
use Rattle.pb_row_bound.specs.Deficits.{are_open}
use Rattle.pb_row_bound.proofs.deficits.open_rows_of.Given as goal

abbrev pub invariant-loop-row : goal.invariant-loop-row
invariant-loop-row g l = l.open_rows ≡ are_open g.C.Coefficient.limit (take l.row l.deficits) ++ replicate (length l.deficits - l.row) false
