use Rattle.pb_rows.specs.Table.{AreLimitsOf}
use Rattle.pb_rows.proofs.rows.limits_of.Given as goal

abbrev pub invariant-loop-row : goal.invariant-loop-row
invariant-loop-row g l = AreLimitsOf l.form.rows l.row l.limits.items
