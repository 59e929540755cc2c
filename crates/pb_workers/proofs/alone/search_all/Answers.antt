use Rattle.std.proofs.Common.{◌≡◌, ◌↔◌, ◌+◌, ℕ, IsTrue, length, ◌∙◌, refl, rules, sym, subst, arith}
use Rattle.pb_inst.specs.Problem.{Problem}
use Rattle.pb_subtree.specs.declared.outcome.Outcome.TheVariants.{Cut}
use Rattle.pb_search.specs.Done.{Division, IsDone}
use Rattle.pb_search.specs.Held.{IsNotAfter}
use Rattle.pb_workers.specs.Parts.{AreSearched}
use Rattle.pb_cubes.specs.Solving.{HoldsLeast}
use Rattle.pb_workers.proofs.AloneLaws.{all_done, none_cut, none_searched, one_more_searched, still_uncut}
use Rattle.pb_workers.proofs.LeastLaws.{least_of_all_done}
use Rattle.pb_workers.proofs.WorkLaws.{whole_alone, whole_by}
use Rattle.pb_workers.proofs.alone.search_all.Goals as goal

pub loop-piece-init : goal.loop-piece-init
loop-piece-init c = record {
  same_instance = refl;
  same_search = refl;
  searched = none_searched c.args.search.now.division c.args.nodes c.args.best.now.held;
  uncut = none_cut c.args.nodes;
}

pub loop-piece-preserved : goal.loop-piece-preserved
loop-piece-preserved c =
    let ran = c.search_piece-outcome in let kept = c.loop-piece.invariant in
    let d : Division = c.args.search.now.division in
    let same : c.loop-piece.search.division ≡ d = kept.same_search in
    let is_cut : IsTrue c.eq-cut.result ↔ (ran.result ≡ Cut) = search rules in
    record {
      same_instance = ran.ensures.same_instance ∙ kept.same_instance;
      same_search = ran.ensures.unchanged ∙ same;
      searched = one_more_searched d c.loop-piece.piece c.args.nodes ran.result ran.new.search.decisions c.loop-piece.cut c.eq-cut.result c.loop-piece.best.held ran.new.best is_cut
          (subst (λ (e : Division). IsNotAfter e.problem c.loop-piece.best.held ran.new.best.held) same ran.ensures.not_after)
          (ran.ensures.same_instance ∙ kept.same_instance ∙ c.requires.same_instance) c.facts_of.ensures
          (λ whole. subst (λ (e : Division). IsDone e c.loop-piece.piece ran.new.best.held) same (ran.ensures.done whole))
          ran.ensures.within ran.ensures.cut kept.searched;
      uncut = still_uncut c.args.nodes ran.result c.loop-piece.cut c.eq-cut.result is_cut (whole_by c.args.nodes ran.result (whole_alone _ c.args.nodes ran.result ran.ensures.no_budget)) kept.uncut;
    }

pub returns-clause-searched : goal.returns-clause-searched
returns-clause-searched c =
    let done = c.loop-piece-test.false in
    let all : c.loop-piece.piece ≡ c.args.count = omega arith in
    subst (λ (n : ℕ). AreSearched c.args.search.now.division n c.args.nodes c.loop-piece.best.held c.loop-piece.cut) all c.loop-piece.invariant.searched

pub returns-clause-least : goal.returns-clause-least
returns-clause-least c = λ uncut.
    let d : Division = c.args.search.now.division in
    let count : c.args.count ≡ length d.cubes + 1 = c.requires.count in
    let done = c.loop-piece-test.false in
    subst (λ (p : Problem). HoldsLeast p c.loop-piece.best.held) (sym c.requires.same_instance)
    (least_of_all_done d _ (λ i within. all_done d c.loop-piece.piece c.args.nodes c.loop-piece.best.held c.loop-piece.cut c.loop-piece.invariant.searched uncut i (omega arith)))
