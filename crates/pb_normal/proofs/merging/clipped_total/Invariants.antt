use Rattle.std.proofs.Common.{◌≡◌, take, sum_by, min}
use Rattle.pb_normal.proofs.merging.clipped_total.Given as goal

abbrev pub invariant-loop-term : goal.invariant-loop-term
invariant-loop-term l = l.total ≡ sum_by (λ t. min t.coef l.degree) (take l.term-index l.terms)
