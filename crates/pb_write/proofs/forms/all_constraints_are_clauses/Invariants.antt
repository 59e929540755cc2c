use Rattle.std.proofs.Common.{take, All}
use Rattle.pb_write.specs.Written.{IsClause}
use Rattle.pb_write.proofs.forms.all_constraints_are_clauses.Given as goal

-- the constraints so far are clauses
abbrev pub invariant-loop-i : goal.invariant-loop-i
invariant-loop-i l = All IsClause (take l.i l.instance.constraints)
