use Rattle.std.proofs.Common.{rules, All, ◌≡◌, ◌<◌, ◌≤◌, false, ◌∙◌, ◌∷◌, [], ℕ, refl, sym, subst, inl}
use Rattle.std.specs.Prelude.{vec_capacity}
use Rattle.pb_inst.specs.Problem.{Problem}
use Rattle.pb_engine.specs.EngineState.{EngineState}
use Rattle.pb_engine.specs.Soundness.{IsSoundTrail}
use Rattle.pb_prune.specs.AgreedPrefix.{KnowsHeldPrefix}
use Rattle.pb_prune.specs.Held.{IsNotAfter}
use Rattle.pb_control.specs.declared.branch.Branch.{Branch}
use Rattle.pb_subtree.specs.Paths.{search_steps}
use Rattle.pb_subtree.specs.declared.search_state.SearchState.{SearchState}
use Rattle.pb_subtree.specs.SearchState.{IsUnderWay, IsNext, IsOwn, IsSearched, IsStateOf, SameBranches}
use Rattle.pb_prune.proofs.AgreedPrefixLemmas.{knows_longer}
use Rattle.pb_control.proofs.BudgetLemmas.{left_itself, left_after, left_of_more}
use Rattle.pb_subtree.proofs.DivingLemmas.{same_branches_back}
use Rattle.pb_subtree.proofs.Engines.{same_constraints_onward}
use Rattle.pb_subtree.proofs.GoesOnLemmas.{goes_itself, goes_onward}
use Rattle.pb_subtree.proofs.HeldLemmas.{moves_onward, moves_itself, not_after_itself}
use Rattle.pb_subtree.proofs.PathLemmas.{back_keeps}
use Rattle.pb_subtree.proofs.SearchLemmas.{begins, goes_on, at_problem, at_next, next_falls, own_onward, state_moves, stays_under_way}
use Rattle.pb_subtree.proofs.node.search_subtree.Goals as goal

pub loop-branch-preserved : goal.loop-branch-preserved
loop-branch-preserved g c =
    let start = c.args.state.now.engine in
    let same : c.loop-branch.best.problem ≡ c.args.best.now.problem = c.loop-branch.invariant.moves_on.same_instance in
    let now : c.next_branch.new.best.problem ≡ c.args.best.now.problem = c.next_branch.ensures.further.moves_on.same_instance ∙ same in
    let d : SearchState _ = record c.next_branch.new.state { engine = c.decide.new.engine; branches = c.decide.new.path } in
    let u : SearchState _ = c.borrow_after.new.state in
    let next : IsNext c.args.best.now.problem start c.next_branch.new.state c.in-Some.branch c.next_branch.new.best.held =
    at_problem c.args.best.now.problem c.loop-branch.best.problem (λ p. IsUnderWay p start c.loop-branch.state c.loop-branch.best.held) (λ p. IsNext p start c.next_branch.new.state c.in-Some.branch c.next_branch.new.best.held) same (c.in-Some.ensures.further.onward start) c.loop-branch.invariant.under_way in
    let found : g.S.Share.lends c.args.share.now ≡ false → IsOwn start c.loop-branch.best c.next_branch.new.best =
    λ none. at_problem c.args.best.now.problem c.loop-branch.best.problem (λ p. IsUnderWay p start c.loop-branch.state c.loop-branch.best.held) (λ _. IsOwn start c.loop-branch.best c.next_branch.new.best) same (c.next_branch.ensures.further.own (c.loop-branch.invariant.goes_on.same_lending ∙ none) start) c.loop-branch.invariant.under_way in
    let later : IsNotAfter c.args.best.now.problem c.next_branch.new.best.held c.borrow_after.new.best.held = subst (λ (p : Problem). IsNotAfter p c.next_branch.new.best.held c.borrow_after.new.best.held) now c.borrow_after.ensures.stays.moves_on.not_after in
    let same_after : SameBranches d u = same_branches_back d u c.borrow_after.ensures.stays.engine c.borrow_after.ensures.stays.beside in
    let decided : IsStateOf c.args.best.now.problem d = state_moves c.args.best.now.problem c.next_branch.new.state d c.decide.ensures.constraints c.decide.ensures.same_room refl next.made_for in
    let made : IsUnderWay c.args.best.now.problem start d c.next_branch.new.best.held = goes_on c.args.best.now.problem start c.next_branch.new.state d c.in-Some.branch c.next_branch.new.best.held c.next_branch.new.best.held next (not_after_itself c.args.best.now.problem c.next_branch.new.best.held) (c.decide.ensures.at_path _ next.at_path) c.decide.ensures.added c.decide.ensures.constraints decided in
    record {
      under_way = stays_under_way c.args.best.now.problem start d u c.next_branch.new.best.held c.borrow_after.new.best.held same_after (subst (λ (e : EngineState). IsSoundTrail e) (sym c.borrow_after.ensures.stays.engine) made.at_path.sound) later made;
      moves_on = moves_onward c.args.best.now c.loop-branch.best c.borrow_after.new.best c.loop-branch.invariant.moves_on (moves_onward c.loop-branch.best c.next_branch.new.best c.borrow_after.new.best c.next_branch.ensures.further.moves_on c.borrow_after.ensures.stays.moves_on);
      own = λ none. own_onward start c.args.best.now c.loop-branch.best c.borrow_after.new.best (c.loop-branch.invariant.own none)
          (own_onward start c.loop-branch.best c.next_branch.new.best c.borrow_after.new.best (found none) (inl (c.borrow_after.ensures.own (c.next_branch.ensures.goes_on.same_lending ∙ c.loop-branch.invariant.goes_on.same_lending ∙ none))));
      goes_on = record {
        kept = g.met.S.Share.keeps_onward _ _ _ c.loop-branch.invariant.goes_on.kept (g.met.S.Share.keeps_onward _ _ _ c.next_branch.ensures.goes_on.kept c.borrow_after.ensures.stays.kept);
        same_lending = c.borrow_after.ensures.stays.same_lending ∙ c.next_branch.ensures.goes_on.same_lending ∙ c.loop-branch.invariant.goes_on.same_lending;
        budget = left_after c.args.run.now.left c.next_branch.new.run.left c.decide.new.left (left_after c.args.run.now.left c.loop-branch.run.left c.next_branch.new.run.left c.loop-branch.invariant.goes_on.budget c.next_branch.ensures.goes_on.budget) (left_of_more 1 c.next_branch.new.run.left c.decide.new.left c.decide.ensures.counted);
        known = subst (λ (e : EngineState). KnowsHeldPrefix e.trail c.borrow_after.new.best.held c.borrow_after.new.agreed) (sym c.borrow_after.ensures.stays.engine) (c.borrow_after.ensures.known c.decide.new.engine.trail (knows_longer c.next_branch.new.state.engine.trail c.decide.new.engine.trail (c.in-Some.branch.lit ∷ []) c.next_branch.new.best.held c.next_branch.new.run.agreed c.decide.ensures.longer c.next_branch.ensures.goes_on.known));
      };
    }

pub loop-branch-init : goal.loop-branch-init
loop-branch-init g c =
    let t : SearchState _ = record { engine = c.args.state.now.engine; branches = c.args.state.now.branches; candidate = c.args.state.now.candidate; order = c.args.state.now.order; root_work = c.begin.new.self; dive = c.args.state.now.dive } in
    let made : IsStateOf c.args.best.now.problem t = record { engine = c.requires.node.state.engine; few_variables = c.requires.node.state.few_variables; candidate = c.requires.node.state.candidate; room = c.requires.node.state.room } in
    record {
      under_way = begins c.args.best.now.problem t c.args.best.now.held made c.requires.node.sound c.requires.no_decisions;
      moves_on = moves_itself c.args.best.now;
      own = λ none. inl refl;
      goes_on = goes_itself _ _ g.met.S.Share.keeps_itself _ _ _ _ _ c.requires.node.known (left_itself c.args.run.now.left);
    }

pub next_branch-requires : goal.next_branch-requires
next_branch-requires g c = record {
  state = subst (λ (p : Problem). IsStateOf p c.loop-branch.state) (sym c.loop-branch.invariant.moves_on.same_instance) c.loop-branch.invariant.under_way.made_for;
  at_path = record { root = _; at = c.loop-branch.invariant.under_way.at_path };
  known = c.loop-branch.invariant.goes_on.known;
}

pub decide-requires-clause-at_path : goal.decide-requires-clause-at_path
decide-requires-clause-at_path g c =
    let next = at_next c.args.best.now.problem c.loop-branch.best.problem c.args.state.now.engine c.loop-branch.state c.next_branch.new.state c.in-Some.branch c.loop-branch.best.held c.next_branch.new.best.held c.loop-branch.invariant.moves_on.same_instance (c.in-Some.ensures.further.onward c.args.state.now.engine) c.loop-branch.invariant.under_way in
    record { root = _; at = next.at_path }

pub decide-requires-clause-free : goal.decide-requires-clause-free
decide-requires-clause-free g c =
    let next = at_next c.args.best.now.problem c.loop-branch.best.problem c.args.state.now.engine c.loop-branch.state c.next_branch.new.state c.in-Some.branch c.loop-branch.best.held c.next_branch.new.best.held c.loop-branch.invariant.moves_on.same_instance (c.in-Some.ensures.further.onward c.args.state.now.engine) c.loop-branch.invariant.under_way in
    next.free

pub decide-requires-clause-room : goal.decide-requires-clause-room
decide-requires-clause-room g c =
    let next = at_next c.args.best.now.problem c.loop-branch.best.problem c.args.state.now.engine c.loop-branch.state c.next_branch.new.state c.in-Some.branch c.loop-branch.best.held c.next_branch.new.best.held c.loop-branch.invariant.moves_on.same_instance (c.in-Some.ensures.further.onward c.args.state.now.engine) c.loop-branch.invariant.under_way in
    subst (λ (n : ℕ). n ≤ vec_capacity c.next_branch.new.state.branches) (sym next.made_for.engine.vars) next.made_for.room

pub loop-branch-smaller : goal.loop-branch-smaller
loop-branch-smaller g c =
    let next = at_next c.args.best.now.problem c.loop-branch.best.problem c.args.state.now.engine c.loop-branch.state c.next_branch.new.state c.in-Some.branch c.loop-branch.best.held c.next_branch.new.best.held c.loop-branch.invariant.moves_on.same_instance (c.in-Some.ensures.further.onward c.args.state.now.engine) c.loop-branch.invariant.under_way in
    let n = c.args.best.now.problem.vars in
    let before = search_steps n c.loop-branch.state.root_work c.loop-branch.state.branches.items in
    let falls : search_steps n c.next_branch.new.state.root_work c.decide.new.path.items < before =
    next_falls c.args.best.now.problem c.loop-branch.best.problem c.next_branch.new.state.engine.vars c.loop-branch.state c.next_branch.new.state c.decide.new.path.items c.in-Some.branch c.loop-branch.invariant.moves_on.same_instance c.in-Some.ensures.fewer c.decide.ensures.added c.decide.ensures.few next.made_for.engine.vars in
    subst (λ v. search_steps n c.borrow_after.new.state.root_work v.items < before) (sym c.borrow_after.ensures.stays.beside.branches)
    (subst (λ (r : ℕ). search_steps n r c.decide.new.path.items < before) (sym c.borrow_after.ensures.stays.beside.returns) falls)

pub returns-clause-searched : goal.returns-clause-searched
returns-clause-searched g c _ =
    at_problem c.args.best.now.problem c.loop-branch.best.problem (λ p. IsUnderWay p c.args.state.now.engine c.loop-branch.state c.loop-branch.best.held) (λ p. IsSearched p c.args.state.now.engine c.next_branch.new.best.held) c.loop-branch.invariant.moves_on.same_instance (c.in_default.ensures.further.finished c.args.state.now.engine) c.loop-branch.invariant.under_way

pub returns-clause-own : goal.returns-clause-own
returns-clause-own g c none =
    own_onward c.args.state.now.engine c.args.best.now c.loop-branch.best c.next_branch.new.best (c.loop-branch.invariant.own none)
    (at_problem c.args.best.now.problem c.loop-branch.best.problem (λ p. IsUnderWay p c.args.state.now.engine c.loop-branch.state c.loop-branch.best.held) (λ _. IsOwn c.args.state.now.engine c.loop-branch.best c.next_branch.new.best) c.loop-branch.invariant.moves_on.same_instance (c.next_branch.ensures.further.own (c.loop-branch.invariant.goes_on.same_lending ∙ none) c.args.state.now.engine) c.loop-branch.invariant.under_way)

pub returns-then-is_reached-clause-own : goal.returns-then-is_reached-clause-own
returns-then-is_reached-clause-own g c none =
    own_onward c.args.state.now.engine c.args.best.now c.loop-branch.best c.next_branch.new.best (c.loop-branch.invariant.own none)
    (at_problem c.args.best.now.problem c.loop-branch.best.problem (λ p. IsUnderWay p c.args.state.now.engine c.loop-branch.state c.loop-branch.best.held) (λ _. IsOwn c.args.state.now.engine c.loop-branch.best c.next_branch.new.best) c.loop-branch.invariant.moves_on.same_instance (c.next_branch.ensures.further.own (c.loop-branch.invariant.goes_on.same_lending ∙ none) c.args.state.now.engine) c.loop-branch.invariant.under_way)

pub returns-clause-ended : goal.returns-clause-ended
returns-clause-ended g c =
    let before = c.loop-branch.invariant in
    let further = c.next_branch.ensures.further in
    let goes = goes_onward _ _ g.met.S.Share.keeps_onward _ _ _ _ _ _ _ _ _ _ before.goes_on c.next_branch.ensures.goes_on in
    let moves = moves_onward c.args.best.now c.loop-branch.best c.next_branch.new.best before.moves_on further.moves_on in
    record {
      cut = λ all. search rules;
      budget = goes.budget;
      moves_on = moves;
      held_sound = moves.sound c.requires.held_sound;
      kept = goes.kept;
      same_lending = goes.same_lending;
      made_for = subst (λ (p : Problem). IsStateOf p c.next_branch.new.state) before.moves_on.same_instance further.made_for;
      constraints = same_constraints_onward c.args.state.now.engine c.loop-branch.state.engine c.next_branch.new.state.engine before.under_way.constraints further.constraints;
    }

pub returns-then-is_reached-clause-ended : goal.returns-then-is_reached-clause-ended
returns-then-is_reached-clause-ended g c =
    let before = c.loop-branch.invariant in
    let further = c.next_branch.ensures.further in
    let goes = goes_onward _ _ g.met.S.Share.keeps_onward _ _ _ _ _ _ _ _ _ _ before.goes_on c.next_branch.ensures.goes_on in
    let moves = moves_onward c.args.best.now c.loop-branch.best c.next_branch.new.best before.moves_on further.moves_on in
    record {
      cut = λ all. search rules;
      budget = goes.budget;
      moves_on = moves;
      held_sound = moves.sound c.requires.held_sound;
      kept = goes.kept;
      same_lending = goes.same_lending;
      made_for = subst (λ (p : Problem). IsStateOf p c.next_branch.new.state) before.moves_on.same_instance further.made_for;
      constraints = same_constraints_onward c.args.state.now.engine c.loop-branch.state.engine c.next_branch.new.state.engine before.under_way.constraints further.constraints;
    }

pub returns-then-is_reached-clause-broken_off : goal.returns-then-is_reached-clause-broken_off
returns-then-is_reached-clause-broken_off g c _ =
    let next = at_next c.args.best.now.problem c.loop-branch.best.problem c.args.state.now.engine c.loop-branch.state c.next_branch.new.state c.in-Some.branch c.loop-branch.best.held c.next_branch.new.best.held c.loop-branch.invariant.moves_on.same_instance (c.in-Some.ensures.further.onward c.args.state.now.engine) c.loop-branch.invariant.under_way in
    record {
      variables = subst (λ (n : ℕ). All (λ (b : Branch). b.lit.var ≤ n) c.next_branch.new.state.branches.items) next.constraints.vars next.at_path.variables;
      all_open = λ a below better. back_keeps a c.next_branch.new.state.branches.items c.in-Some.branch (next.all_open a below better);
    }
