use Rattle.std.proofs.Common.{take}
use Rattle.std.specs.Prelude.{flat_map}
use Rattle.pb_write.specs.Pieces.{unit_clauses}
use Rattle.pb_write.specs.Text.{clause_text}
use Rattle.pb_write.specs.Written.{Adds, HaveVariables}
use Rattle.pb_write.proofs.clauses.put_unit_clauses.Given as goal

-- the clauses of the literals so far were written, and the literals have variables
abbrev pub invariant-loop-lit : goal.invariant-loop-lit
invariant-loop-lit g l = record {
  written : Adds g.W.Write.contents l.fn.out l.out (flat_map (clause_text l.format) (unit_clauses (take l.lit-index l.lits)));
  variables : HaveVariables (unit_clauses (take l.lit-index l.lits));
}
