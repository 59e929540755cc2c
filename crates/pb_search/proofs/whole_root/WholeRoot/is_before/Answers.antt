use Rattle.std.proofs.Common.{rules, ◌≡◌, ◌∙◌, Option, Some, ap, sym, subst}
use Rattle.std.specs.Option.{IfSome}
use Rattle.pb_inst.specs.Incumbent.{Incumbent, Solution, IsSolution}
use Rattle.pb_inst.specs.Order.{Precedes}
use Rattle.pb_inst.specs.Problem.{Problem}
use Rattle.pb_subtree.specs.Held.{IsNotAfter}
use Rattle.pb_prune.proofs.ClosedLemmas.{held_is}
use Rattle.pb_search.specs.Root.{Root}
use Rattle.pb_search.proofs.RootLemmas.{not_after_unless_before}
use Rattle.pb_search.proofs.whole_root.WholeRoot.is_before.Goals as goal

pub returns : goal.returns
returns c is =
    let p = c.args.best.now.problem in
    let old = c.self.inside.best in
    let new = c.args.best.now in
    let view : old ≡ c.args.self.now.best = ap (λ (r : Root). r.best) c.self.view_is in
    let s : Solution = record { cost = c.in-Some-Some.cost; assignment = c.in-Some-Some.held.now } in
    let t : Solution = record { cost = c.in-Some-Some-2.now; assignment = c.in-Some-Some-2.assignment.now } in
    let first : old.held ≡ Some s = held_is old.held c.in-Some-Some.cost c.in-Some-Some.held.now (sym c.in-Some-Some.ensures.value) (sym c.in-Some-Some.ensures'.value) in
    let second : new.held ≡ Some t = held_is new.held c.in-Some-Some-2.now c.in-Some-Some-2.assignment.now (sym c.in-Some-Some-2.ensures.value) (sym c.in-Some-Some-2.ensures'.value) in
    let same : old.problem ≡ p = ap (λ (i : Incumbent). i.problem) view ∙ c.requires in
    let sound : IsSolution p s = subst (λ (q : Problem). IsSolution q s) same (subst (λ (o : Option Solution). IfSome o (λ x. IsSolution old.problem x)) first c.cost.ensures.sound) in
    let now : IsSolution p t = subst (λ (o : Option Solution). IfSome o (λ x. IsSolution p x)) second c.cost-2.ensures.sound in
    let none : ¬ Precedes s.cost s.assignment t.cost t.assignment = search rules in
    subst (λ (i : Incumbent). IsNotAfter p i.held new.held) view
    (subst (λ (o : Option Solution). IsNotAfter p o new.held) (sym first) (subst (λ (o : Option Solution). IsNotAfter p (Some s) o) (sym second)
    (not_after_unless_before p s t sound now none)))
