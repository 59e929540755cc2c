use Rattle.pb_inst.specs.Constraints.{linear}
use Rattle.pb_write.specs.Text.{constraint_text}
use Rattle.pb_write.proofs.Growing.{adds_more}
use Rattle.pb_write.proofs.Turned.{magnitude_within}
use Rattle.pb_write.proofs.writing.put_constraints.Goals as goal

pub put_constraint-requires : goal.put_constraint-requires
put_constraint-requires g c =
    magnitude_within c.args.instance.now.constraints c.loop-i.i (linear c.constraint.result) c.constraint.ensures.value c.constraint.ensures.proper.limits.constraint_sums

pub loop-i-preserved : goal.loop-i-preserved
loop-i-preserved g c = adds_more _ (constraint_text c.args.format) _ _ _ _ _ _ c.constraint.ensures.value c.loop-i.invariant c.in_ok-put_constraint.ensures
