use Rattle.std.proofs.Common.{All, refl, subst, take_all}
use Rattle.std.proofs.lemmas.List.Elements.{All-more}
use Rattle.pb_inst.specs.Literal.{Literal}
use Rattle.pb_clique.specs.Cliques.{Covers}
use Rattle.pb_clique.proofs.cliques.covers_all.Goals as goal

pub loop-other-preserved : goal.loop-other-preserved
loop-other-preserved c =
    let P : Literal → Type 0 = λ l. Covers c.args.arcs.now l c.args.lit in
    All-more P c.args.clique.now c.loop-other.other-index c.other-item.result c.loop-other-test.true c.loop-other.invariant (subst P c.other-item.is (c.if-not-has.ensures refl))

pub returns : goal.returns
returns c h = subst (All (λ (l : Literal). Covers c.args.arcs.now l c.args.lit)) (take_all c.loop-other.other-index c.args.clique.now c.loop-other-test.false) c.loop-other.invariant
