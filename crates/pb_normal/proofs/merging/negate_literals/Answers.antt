use Rattle.std.proofs.Common.{arith}
use Rattle.pb_normal.proofs.MergeLemmas.{negate_step}
use Rattle.pb_normal.proofs.merging.negate_literals.Goals as goal

pub loop-term-preserved : goal.loop-term-preserved
loop-term-preserved c = negate_step c.args.terms.now c.loop-term.terms c.loop-term.term-index c.term-item.result c.negate-term.result (omega arith) c.loop-term.invariant c.term-item.is c.negate-term.ensures.same_variable c.negate-term.ensures.other_sign
