use Rattle.std.proofs.Common.{◌≡◌, ◌++◌, take, drop}
use Rattle.pb_dual.proofs.multipliers.Multipliers.release.Given as goal

abbrev pub invariant-loop-row : goal.invariant-loop-row
invariant-loop-row g l = record {
  same : l.self ≡ record l.initial.self { counted = l.self.counted };
  counted : l.self.counted ≡ record l.self.form { rows = take l.row l.self.form.rows ++ drop l.row l.initial.self.counted.rows };
}
