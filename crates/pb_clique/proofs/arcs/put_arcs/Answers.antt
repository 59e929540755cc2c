use Rattle.std.proofs.Common.{All, subst, sym}
use Rattle.std.proofs.lemmas.List.Elements.{All-push}
use Rattle.pb_inst.specs.Constraints.{linear}
use Rattle.pb_clique.specs.Cliques.{Covers}
use Rattle.pb_clique.specs.declared.arcs.Arc.{Arc}
use Rattle.pb_clique.proofs.CliqueLemmas.{covers_as, covers_of_clause}
use Rattle.pb_clique.proofs.arcs.put_arcs.Goals as goal

pub returns : goal.returns
returns c =
    let P : Arc → Type 0 = λ arc. Covers c.args.instance.now arc.from arc.to in
    let both = covers_of_clause c.args.instance.now (linear c.constraint.result) c.args.i _ _ c.constraint.ensures.value c.in-Some.ensures in
    let first = covers_as c.args.instance.now _ _ c.arc_between.result.from c.arc_between.result.to c.arc_between.ensures.0 c.arc_between.ensures.1 both.0 in
    let second = covers_as c.args.instance.now _ _ c.arc_between-2.result.from c.arc_between-2.result.to c.arc_between-2.ensures.0 c.arc_between-2.ensures.1 both.1 in
    let so_far = subst (All P) (sym c.in_ok-push.ensures.items) (All-push P c.args.arcs.now.items c.arc_between.result c.requires.arcs first) in
    subst (All P) (sym c.in_ok-push-2.ensures.items) (All-push P c.push.new.self.items c.arc_between-2.result so_far second)
