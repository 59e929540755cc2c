use Rattle.std.proofs.Common.{arith}
use Rattle.pb_inst.specs.Constraints.{linear}
use Rattle.pb_write.proofs.Counting.{constraint_terms_more, constraint_terms_more_le}
use Rattle.pb_write.proofs.counts.spare_terms.Goals as goal

pub overflow_sub-spare-in-loop-i : goal.overflow_sub-spare-in-loop-i
overflow_sub-spare-in-loop-i c =
    let more = constraint_terms_more_le c.args.instance.now.constraints c.loop-i.i (linear c.constraint.result) c.constraint.ensures.value in
    omega (arith, c.loop-i.invariant, c.constraint.ensures.proper.limits.all_terms, c.len-spare-in-loop-i.ensures)

pub loop-i-preserved : goal.loop-i-preserved
loop-i-preserved c =
    let more = constraint_terms_more c.args.instance.now.constraints c.loop-i.i (linear c.constraint.result) c.constraint.ensures.value in
    let less = constraint_terms_more_le c.args.instance.now.constraints c.loop-i.i (linear c.constraint.result) c.constraint.ensures.value in
    omega (arith, c.loop-i.invariant, c.constraint.ensures.proper.limits.all_terms, c.len-spare-in-loop-i.ensures)
