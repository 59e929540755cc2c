use Rattle.std.proofs.Common.{◌≡◌, ◌++◌, take, drop, map}
use Rattle.pb_normal.specs.Merging.{opposite}
use Rattle.pb_normal.proofs.merging.negate_literals.Given as goal

abbrev pub invariant-loop-term : goal.invariant-loop-term
invariant-loop-term l = l.terms ≡ map opposite (take l.term-index l.fn.terms) ++ drop l.term-index l.fn.terms
