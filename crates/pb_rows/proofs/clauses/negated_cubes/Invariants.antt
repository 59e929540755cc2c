use Rattle.std.proofs.Common.{take, map}
use Rattle.pb_rows.specs.Clauses.{AreClausesOf, clause_row}
use Rattle.pb_rows.proofs.clauses.negated_cubes.Given as goal

abbrev pub invariant-loop-cube : goal.invariant-loop-cube
invariant-loop-cube l = AreClausesOf (take l.cube-index l.cubes) (map clause_row l.clauses)
