use Rattle.std.proofs.Common.{arith, refl}
use Rattle.pb_write.specs.Written.{IsClause}
use Rattle.pb_write.proofs.Counting.{all_more, all_done}
use Rattle.pb_write.proofs.forms.all_constraints_are_clauses.Goals as goal

pub loop-i-preserved : goal.loop-i-preserved
loop-i-preserved c = all_more IsClause c.args.instance.now.constraints c.loop-i.i _ c.constraint.ensures.value c.loop-i.invariant (c.is_clause.ensures.0 c.if-not-is_clause.false)

pub returns : goal.returns
returns c = (λ held. all_done IsClause c.args.instance.now.constraints c.loop-i.i (omega (arith, c.len-i-end.ensures.value)) c.loop-i.invariant, λ all. refl)
