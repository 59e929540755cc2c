use Rattle.std.proofs.Common.{◌≡◌, ◌↔◌, IsTrue, ◌∷◌, ◌∙◌, ◌++◌, [], List, Option, map, take, ap, subst, sym}
use Rattle.std.specs.Prelude.{All, Any}
use Rattle.std.specs.Option.{IfSome}
use Rattle.std.proofs.lemmas.List.{take_all, take_more}
use Rattle.std.proofs.lemmas.List.Elements.{All-push}
use Rattle.pb_inst.specs.Problem.{Problem}
use Rattle.pb_inst.specs.Incumbent.{Incumbent, Solution, IsSolution}
use Rattle.pb_workers.specs.Parts.{PartView, AreDone, AreSolutions, IsFirst}
use Rattle.pb_cubes.proofs.FirstLaws.{found_more}
use Rattle.pb_workers.proofs.LeastLaws.{holds_least}
use Rattle.pb_workers.proofs.CutLaws.{HasCut, cut_more}
use Rattle.pb_workers.proofs.gathering.gather.Goals as goal

pub loop-part-preserved : goal.loop-part-preserved
loop-part-preserved c =
    let p : Problem = c.args.into.now.problem in
    let held_by : PartView → Option Solution = λ part. part.best.held in
    let part : PartView = c.part-item.result in
    let found : List (Option Solution) = c.args.into.now.held ∷ map held_by (take c.loop-part.part-index c.args.parts.now) in
    let one_more = found_more held_by c.args.into.now.held c.args.parts.now c.loop-part.part-index part c.loop-part-test.true c.part-item.is in
    let same : c.best.result.now ≡ part.best = c.best.ensures.value in
    let other : IfSome part.best.held (IsSolution p) =
    subst (λ (b : Incumbent). IfSome b.held (IsSolution p)) same (subst (λ (q : Problem). IfSome c.best.result.now.held (IsSolution q)) c.loop-part.invariant.same_instance c.take_from.ensures.other_sound) in
    let adds : IsFirst (found ++ part.best.held ∷ []) c.take_from.new.into.held =
    subst (λ (b : Incumbent). IsFirst (found ++ b.held ∷ []) c.take_from.new.into.held) same
    (c.take_from.ensures.adds found (subst (λ (q : Problem). AreSolutions q found) (sym c.loop-part.invariant.same_instance) c.loop-part.invariant.solutions) c.loop-part.invariant.first) in
    let parts_more = take_more c.args.parts.now c.loop-part.part-index part c.loop-part-test.true ∙ ap (λ (x : PartView). take c.loop-part.part-index c.args.parts.now ++ x ∷ []) (sym c.part-item.is) in
    record {
      same_instance = c.take_from.ensures.same_instance ∙ c.loop-part.invariant.same_instance;
      solutions = subst (AreSolutions p) one_more (All-push (λ s. IfSome s (IsSolution p)) found part.best.held c.loop-part.invariant.solutions other);
      first = subst (λ (all : List (Option Solution)). IsFirst all c.take_from.new.into.held) one_more adds;
      done = subst (λ (parts : List PartView). All AreDone parts) (sym parts_more) (All-push AreDone (take c.loop-part.part-index c.args.parts.now) part c.loop-part.invariant.done c.best.ensures.done);
      cut = cut_more c.args.parts.now c.loop-part.part-index part c.cut.result.now c.loop-part.cut c.is_empty.result c.loop-part-test.true c.part-item.is c.cut.ensures c.is_empty.ensures c.loop-part.invariant.cut;
    }

pub returns-clause-least : goal.returns-clause-least
returns-clause-least c = λ list whole.
    let all = take_all c.loop-part.part-index c.args.parts.now c.loop-part-test.false in
    holds_least c.args.into.now.problem list c.args.into.now.held c.args.parts.now c.loop-part.into.held (record {
      of_instance = c.requires.one_instance;
      done = subst (λ (parts : List PartView). All AreDone parts) all c.loop-part.invariant.done;
      solutions = subst (λ (parts : List PartView). AreSolutions c.args.into.now.problem (c.args.into.now.held ∷ map (λ part. part.best.held) parts)) all c.loop-part.invariant.solutions;
      is_first = subst (λ (parts : List PartView). IsFirst (c.args.into.now.held ∷ map (λ part. part.best.held) parts) c.loop-part.into.held) all c.loop-part.invariant.first;
    }) whole

pub returns-clause-done : goal.returns-clause-done
returns-clause-done c =
    subst (λ (parts : List PartView). All AreDone parts) (take_all c.loop-part.part-index c.args.parts.now c.loop-part-test.false) c.loop-part.invariant.done

pub returns-clause-cut : goal.returns-clause-cut
returns-clause-cut c =
    subst (λ (parts : List PartView). IsTrue c.loop-part.cut ↔ Any HasCut parts) (take_all c.loop-part.part-index c.args.parts.now c.loop-part-test.false) c.loop-part.invariant.cut
