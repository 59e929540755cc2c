use Rattle.std.proofs.Common.{◌≡◌, map, take}
use Rattle.std.specs.Vec.{vec_capacity}
use Rattle.pb_dual.specs.Saturation.{whole}
use Rattle.pb_dual.proofs.saturation.whole_rows.Given as goal

abbrev pub invariant-loop-row : goal.invariant-loop-row
invariant-loop-row g l = record {
  made : l.saturations.items ≡ map whole (take l.row l.form.rows);
  room : vec_capacity l.saturations ≡ vec_capacity l.initial.saturations;
}
