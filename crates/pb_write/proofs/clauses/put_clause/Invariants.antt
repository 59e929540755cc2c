use Rattle.std.proofs.Common.{take, map}
use Rattle.std.specs.Prelude.{flat_map}
use Rattle.pb_inst.specs.declared.constraints.Term.{Term}
use Rattle.pb_write.specs.Text.{clause_literal}
use Rattle.pb_write.specs.Written.{Adds}
use Rattle.pb_write.proofs.clauses.put_clause.Given as goal

-- the literals of the terms so far were written
abbrev pub invariant-loop-i : goal.invariant-loop-i
invariant-loop-i g l = Adds g.W.Write.contents l.fn.out l.out (flat_map (clause_literal l.format) (map (λ (t : Term). t.lit) (take l.i l.terms)))
