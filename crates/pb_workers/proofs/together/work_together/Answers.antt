use Rattle.std.proofs.Common.{◌≡◌, ◌≢◌, ◌∙◌, ◌∷◌, [], ℕ, List, map, Option, None, IsTrue, ap, refl, sym, subst}
use Rattle.std.specs.Prelude.{All, Any, IfNone}
use Rattle.pb_inst.specs.Problem.{Problem}
use Rattle.std.specs.Option.{IfSome}
use Rattle.pb_inst.specs.Incumbent.{Incumbent, IsSolution}
use Rattle.pb_cubes.specs.Pieces.{CubeList}
use Rattle.pb_workers.specs.Dealing.{TaskView, ArePieces, AreNamesOf}
use Rattle.pb_workers.specs.Claims.{piece_count}
use Rattle.pb_workers.specs.Parts.{PartView, AreWhole, IsFirst, IsSettled, all_numbers}
use Rattle.pb_cubes.specs.Solving.{HoldsLeast}
use Rattle.pb_workers.proofs.ClaimLaws.{all_named, dealt_work, each_named}
use Rattle.pb_workers.proofs.LeastLaws.{settled_by_first}
use Rattle.pb_workers.proofs.CutLaws.{none_cut_of_all, none_cut_told}
use Rattle.pb_workers.proofs.together.work_together.Goals as goal

pub returns-clause-work : goal.returns-clause-work
returns-clause-work g c =
    let lent = c.new-set.ensures.lent in (
      c.in_ok-parts.parts.items,
      dealt_work c.args.inst.now c.new-set.result.inst.now c.args.pieces.now c.new-set.result.pieces.now c.args.task c.new-set.result.task c.args.nodes c.new-set.result.nodes c.args.is_race c.new-set.result.is_race c.in_ok-parts.parts.items c.deref.result.now c.in_ok-parts.seat.claimed c.close.result.claims c.in_ok-best.best.held c.gather-cut.new.into.held c.gather-cut.result
          lent.0 lent.1 lent.4 lent.3 lent.5 c.in_ok-parts.ensures.whole c.close.ensures.count c.close.ensures.numbers c.deref.ensures.value (ap (λ (b : Incumbent). b.held) c.in_ok-best.ensures)
          c.gather-cut.ensures.done c.gather-cut.ensures.first c.gather-cut.ensures.cut,
      subst (λ (ps : List PartView). AreNamesOf c.args.task ps c.take.new.self.done.items c.take.new.self.cut.items) c.deref-3.ensures.value c.in_ok-take.ensures,
    )

pub returns-clause-least : goal.returns-clause-least
returns-clause-least g c = λ every uncut.
    let parts : List PartView = c.in_ok-parts.parts.items in
    let none = none_cut_told parts c.gather-cut.result (subst (λ (ps : List PartView). Any (λ (x : PartView). x.cut ≢ []) ps → IsTrue c.gather-cut.result) c.deref.ensures.value c.gather-cut.ensures.cut.1) uncut in
    let work = c.in_ok-parts.ensures.whole in
    let list = c.new-set.result.pieces.now in
    let pieces : ArePieces None (piece_count list) (all_numbers parts) =
    subst (λ (t : Option TaskView). ArePieces t (piece_count list) (all_numbers parts)) (c.new-set.ensures.lent.4 ∙ every)
    (each_named c.new-set.result.inst.now list c.new-set.result.task c.new-set.result.nodes c.new-set.result.is_race parts c.in_ok-parts.seat.claimed c.close.result.claims work c.close.ensures.count c.close.ensures.numbers) in
    let whole : AreWhole list parts = all_named list parts work.of_pieces (pieces.dealt refl) none in
    subst (λ (p : Problem). HoldsLeast p c.gather-cut.new.into.held) (ap (λ (b : Incumbent). b.problem) c.in_ok-best.ensures)
    (c.gather-cut.ensures.least list (subst (λ (ps : List PartView). AreWhole list ps) (sym c.deref.ensures.value) whole))

pub returns-clause-no_budget : goal.returns-clause-no_budget
returns-clause-no_budget g c = λ no_race.
    let parts : List PartView = c.in_ok-parts.parts.items in
    none_cut_of_all c.args.nodes parts c.gather-cut.result (subst (λ (n : Option ℕ). IfNone n (All (λ (x : PartView). x.cut ≡ []) parts)) c.new-set.ensures.lent.3 (c.in_ok-parts.ensures.whole.uncut (c.new-set.ensures.lent.5 ∙ no_race)))
    (subst (λ (ps : List PartView). IsTrue c.gather-cut.result → Any (λ (x : PartView). x.cut ≢ []) ps) c.deref.ensures.value c.gather-cut.ensures.cut.0)

pub returns-clause-settled : goal.returns-clause-settled
returns-clause-settled g c settled =
    let parts : List PartView = c.in_ok-parts.parts.items in
    let lent = c.new-set.ensures.lent in
    let work = c.in_ok-parts.ensures.whole in
    let first = c.gather-cut.new.into in
    let p = c.new-set.result.inst.now in
    let same : first.problem ≡ p = c.gather-cut.ensures.same_instance ∙ (ap (λ (b : Incumbent). b.problem) c.in_ok-best.ensures ∙ sym lent.0) in
    subst (λ (l : CubeList). IsSettled l first) lent.1
    (settled_by_first p c.new-set.result.pieces.now c.in_ok-best.best.held parts first work.of_instance work.of_pieces
    (subst (λ (ps : List PartView). IsFirst (c.in_ok-best.best.held ∷ map (λ part. part.best.held) ps) first.held) c.deref.ensures.value c.gather-cut.ensures.first)
    same (subst (λ (q : Problem). IfSome first.held (IsSolution q)) same c.facts_of.ensures)
    (subst (λ (ps : List PartView). Any (λ (x : PartView). IsSettled x.pieces x.best) ps) c.deref-2.ensures.value (c.is_one_settled-is_settled.ensures settled)))
