use Rattle.std.proofs.Common.{List, Bool, Option, sym, subst}
use Rattle.pb_inst.specs.Incumbent.{Solution}
use Rattle.pb_subtree.specs.Held.{IsNotAfter}
use Rattle.pb_subtree.proofs.HeldLemmas.{IsTaken, taken}
use Rattle.pb_search.proofs.RootLemmas.{kept_not_after, solution_is}
use Rattle.pb_search.proofs.whole_root.keep.Goals as goal

pub returns-clause-not_after : goal.returns-clause-not_after
returns-clause-not_after c =
    let p = c.args.best.now.problem in
    let a = c.in-Some.held.now in
    let there = solution_is p c.args.best.now.held a c.in-Some.ensures.value c.assignment.ensures.sound in
    let took : IsTaken c.args.kept.now c.take.new.self a c.take.result = taken c.args.kept.now c.take.new.self a c.take.result c.take.ensures.decides c.take.ensures.same_instance c.take.ensures.held c.take.ensures.sound c.take.ensures.was_sound in
    subst (λ (o : Option Solution). IsNotAfter p o c.take.new.self.held) (sym there.held_is)
    (kept_not_after p there.solution c.args.kept.now c.take.new.self c.take.result there.sound (subst (λ (x : List Bool). IsTaken c.args.kept.now c.take.new.self x c.take.result) (sym there.assignment_is) took) c.requires)
