use Rattle.std.proofs.Common.{◌+◌, ◌*◌, ◌≤◌, All, take}
use Rattle.pb_rows.proofs.rows.enough.Given as goal

abbrev pub invariant-loop-term : goal.invariant-loop-term
invariant-loop-term g l = record {
  degree : l.degree ≤ l.enough;
  most : l.enough ≤ 2 * l.degree;
  each : All (λ t. l.degree + t.coef ≤ l.enough) (take l.term-index l.terms);
}
