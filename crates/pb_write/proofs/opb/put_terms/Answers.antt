use Rattle.pb_write.specs.Text.{term_text}
use Rattle.pb_write.proofs.Growing.{adds_more}
use Rattle.pb_write.proofs.opb.put_terms.Goals as goal

pub loop-i-preserved : goal.loop-i-preserved
loop-i-preserved g c = adds_more _ term_text _ _ _ _ _ _ c.get.ensures c.loop-i.invariant c.in_ok-put_term.ensures
