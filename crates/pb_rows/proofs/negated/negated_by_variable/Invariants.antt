use Rattle.pb_rows.proofs.NegatedLemmas.{IsClauseSoFar}
use Rattle.pb_rows.proofs.negated.negated_by_variable.Given as goal

abbrev pub invariant-loop-lit : goal.invariant-loop-lit
invariant-loop-lit l = IsClauseSoFar l.cube l.lit-index l.clause.items
