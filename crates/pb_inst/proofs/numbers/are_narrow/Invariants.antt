use Rattle.std.proofs.Common.{All, take}
use Rattle.pb_inst.specs.FlatTerms.{IsNarrow}
use Rattle.pb_inst.proofs.numbers.are_narrow.Given as goal

abbrev pub invariant-loop-term : goal.invariant-loop-term
invariant-loop-term l = All (λ t. IsNarrow t.coef) (take l.term-index l.terms)
