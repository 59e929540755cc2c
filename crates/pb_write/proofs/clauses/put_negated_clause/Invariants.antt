use Rattle.std.proofs.Common.{take, All, ◌≤◌}
use Rattle.std.specs.Prelude.{flat_map}
use Rattle.pb_inst.specs.Literal.{Literal}
use Rattle.pb_write.specs.Pieces.{negated_clause}
use Rattle.pb_write.specs.Text.{clause_literal}
use Rattle.pb_write.specs.Written.{Adds}
use Rattle.pb_write.proofs.clauses.put_negated_clause.Given as goal

-- the negations of the literals so far were written, and have variables
abbrev pub invariant-loop-lit : goal.invariant-loop-lit
invariant-loop-lit g l = record {
  written : Adds g.W.Write.contents l.fn.out l.out (flat_map (clause_literal l.format) (negated_clause (take l.lit-index l.lits)));
  variables : All (λ (m : Literal). 1 ≤ m.var) (negated_clause (take l.lit-index l.lits));
}
