use Rattle.std.proofs.Common.{take, map}
use Rattle.std.specs.Prelude.{flat_map}
use Rattle.pb_write.specs.Pieces.{negated_clause}
use Rattle.pb_write.specs.Text.{clause_text}
use Rattle.pb_write.specs.Written.{Adds, HaveVariables}
use Rattle.pb_write.proofs.clauses.put_negated_clauses.Given as goal

-- the clauses of the cubes so far were written, and their literals have variables
abbrev pub invariant-loop-cube : goal.invariant-loop-cube
invariant-loop-cube g l = record {
  written : Adds g.W.Write.contents l.fn.out l.out (flat_map (clause_text l.format) (map negated_clause (take l.cube-index l.cubes)));
  variables : HaveVariables (map negated_clause (take l.cube-index l.cubes));
}
