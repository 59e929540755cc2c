use Rattle.std.proofs.Common.{List, arith, subst, sym}
use Rattle.pb_inst.specs.Constraints.{linear}
use Rattle.pb_inst.specs.Literal.{Literal}
use Rattle.pb_inst.specs.Meaning.{Meets}
use Rattle.pb_clique.specs.Cliques.{all_but_one}
use Rattle.pb_clique.proofs.CliqueLemmas.{follows_from}
use Rattle.pb_clique.proofs.covers.follows.Goals as goal

pub returns-then-place-len : goal.returns-then-place-len
returns-then-place-len c h =
    follows_from c.args.cliques.now (linear c.args.constraint.now) _ _ c.in-Some-clique_of.number (omega (arith, c.if-place-len.true, c.len.ensures.value)) c.in-Some.ensures
    (λ a met. c.has_both.ensures h a (subst (λ (lits : List Literal). Meets a (all_but_one lits)) (sym c.list.ensures) met))
