use Rattle.std.proofs.Common.{◌≡◌, ◌+◌, ◌-◌, ◌≤◌, length, drop, replicate, false}
use Rattle.pb_row_bound.specs.DisjointRows.{row_contributions}
use Rattle.pb_row_bound.proofs.row_contributions.row_contributions.Given as goal

abbrev pub invariant-loop-row : goal.invariant-loop-row
invariant-loop-row g l = record {
  left : l.sum + row_contributions l.trail.form.objective l.trail.trail l.marks (drop l.from l.trail.rows) ≡ row_contributions l.trail.form.objective l.trail.trail (replicate l.trail.vars false) l.trail.rows;
  count : length l.marks ≡ l.trail.vars;
  within : l.from ≤ length l.trail.rows;
}

abbrev pub decreases-loop-row : goal.decreases-loop-row
decreases-loop-row g l = length l.trail.rows - l.from
