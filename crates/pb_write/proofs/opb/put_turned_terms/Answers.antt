use Rattle.std.proofs.Common.{subst, arith}
use Rattle.pb_write.specs.Text.{term_text}
use Rattle.pb_write.specs.Turned.{turned_term}
use Rattle.pb_write.specs.Written.{Adds}
use Rattle.pb_write.proofs.Growing.{adds_mapped}
use Rattle.pb_write.proofs.Turned.{coefficient_within}
use Rattle.pb_write.proofs.opb.put_turned_terms.Goals as goal

pub turned-requires : goal.turned-requires
turned-requires g c =
    let within = coefficient_within c.args.terms.now c.loop-i.i c.get.result c.get.ensures in
    omega (arith, within, c.requires)

pub loop-i-preserved : goal.loop-i-preserved
loop-i-preserved g c =
    adds_mapped _ term_text turned_term _ _ _ _ _ _ c.get.ensures c.loop-i.invariant
    (subst (λ t. Adds g.W.Write.contents c.loop-i.out c.put_term.new.out (term_text t)) c.turned.ensures c.in_ok-put_term.ensures)
