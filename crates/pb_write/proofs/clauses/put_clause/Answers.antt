use Rattle.pb_inst.specs.declared.constraints.Term.{Term}
use Rattle.pb_write.specs.Text.{clause_literal}
use Rattle.pb_write.proofs.Growing.{adds_mapped}
use Rattle.pb_write.proofs.clauses.put_clause.Goals as goal

pub loop-i-preserved : goal.loop-i-preserved
loop-i-preserved g c =
    adds_mapped _ (clause_literal c.args.format) (λ (t : Term). t.lit) _ _ _ _ _ _ c.get.ensures c.loop-i.invariant c.in_ok-put_literal.ensures.written
