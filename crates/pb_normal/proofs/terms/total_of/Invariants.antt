use Rattle.std.proofs.Common.{◌≡◌, take}
use Rattle.pb_normal.specs.NormalForm.{total_coefficient}
use Rattle.pb_normal.proofs.terms.total_of.Given as goal

abbrev pub invariant-loop-term : goal.invariant-loop-term
invariant-loop-term g l = l.total ≡ total_coefficient (take l.term-index l.terms)
