use Rattle.std.proofs.lemmas.List.{append-nil}
use Rattle.std.proofs.Common.{◌≡◌, ◌++◌, ◌∷◌, [], ◌<◌, ◌⊎◌, List, arith, true, refl, subst, sym}
use Rattle.pb_engine.specs.EngineState.{EngineState}
use Rattle.pb_control.specs.declared.branch.Branch.{Branch}
use Rattle.pb_subtree.specs.declared.search_state.SearchState.{SearchState}
use Rattle.pb_subtree.specs.Paths.{LeavesOpen, steps_left}
use Rattle.pb_prune.specs.AgreedPrefix.{KnowsHeldPrefix}
use Rattle.pb_prune.specs.Subtree.{IsClosed}
use Rattle.pb_subtree.proofs.Engines.{same_constraints_onward}
use Rattle.pb_subtree.proofs.Moves.{shortened_more}
use Rattle.pb_subtree.proofs.PathLemmas.{turn_falls, fewer_steps}
use Rattle.pb_subtree.proofs.SearchLemmas.{IsStep, back_itself, step_of, leaving_on, turn_next, same_engine, state_moves}
use Rattle.pb_subtree.proofs.backtrack.backtrack.Goals as goal

pub returns-then-not-is_spent-clause-next : goal.returns-then-not-is_spent-clause-next
returns-then-not-is_spent-clause-next g c start h =
    let u : SearchState _ = record { engine = c.is_spent.new.engine; branches = c.undo_decision.new.path; candidate = c.loop-branch.state.candidate; order = c.loop-branch.state.order; root_work = c.loop-branch.state.root_work; dive = c.loop-branch.state.dive } in
    let step : IsStep c.args.best.now.problem c.loop-branch.state u c.in-Some.branch = step_of c.args.best.now.problem c.loop-branch.state u c.undo_decision.new.engine c.in-Some.branch c.in-Some.ensures.popped c.undo_decision.ensures.constraints c.undo_decision.ensures.at_path c.in-Some.ensures.free c.undo_decision.ensures.same_room refl c.is_spent.ensures.unchanged in
    turn_next c.args.best.now.problem start c.loop-branch.state u c.in-Some.branch c.other_value.result c.args.best.now.held step c.other_value.ensures (c.loop-branch.invariant.leaving start h)

pub returns-then-not-is_spent-clause-fewer : goal.returns-then-not-is_spent-clause-fewer
returns-then-not-is_spent-clause-fewer g c few =
    let n = c.args.best.now.problem.vars in
    let s = shortened_more c.args.state.now.branches.items c.loop-branch.state.branches.items c.undo_decision.new.path.items c.in-Some.branch c.loop-branch.invariant.shortened c.in-Some.ensures.popped in
    let falls : steps_left n (c.undo_decision.new.path.items ++ c.other_value.result ∷ []) < steps_left n c.args.state.now.branches.items =
    subst (λ (x : List Branch). steps_left n (c.undo_decision.new.path.items ++ c.other_value.result ∷ []) < steps_left n x) (sym s.1)
    (turn_falls n c.undo_decision.new.path.items s.0 c.in-Some.branch c.other_value.result (c.is_spent.ensures.fresh c.if-not-is_spent.true) c.other_value.ensures.flipped) in
    fewer_steps n c.args.state.now.root_work c.loop-branch.state.root_work c.args.state.now.branches.items (c.undo_decision.new.path.items ++ c.other_value.result ∷ []) (omega (arith, c.loop-branch.invariant.back.returns)) falls

pub loop-branch-preserved : goal.loop-branch-preserved
loop-branch-preserved g c =
    let u : SearchState _ = record { engine = c.is_spent.new.engine; branches = c.undo_decision.new.path; candidate = c.loop-branch.state.candidate; order = c.loop-branch.state.order; root_work = c.loop-branch.state.root_work; dive = c.loop-branch.state.dive } in
    let step : IsStep c.args.best.now.problem c.loop-branch.state u c.in-Some.branch = step_of c.args.best.now.problem c.loop-branch.state u c.undo_decision.new.engine c.in-Some.branch c.in-Some.ensures.popped c.undo_decision.ensures.constraints c.undo_decision.ensures.at_path c.in-Some.ensures.free c.undo_decision.ensures.same_room refl c.is_spent.ensures.unchanged in
    let s = shortened_more c.args.state.now.branches.items c.loop-branch.state.branches.items c.undo_decision.new.path.items c.in-Some.branch c.loop-branch.invariant.shortened c.in-Some.ensures.popped in
    let spent : (c.in-Some.branch.flipped ≡ true) ⊎ IsClosed c.args.best.now.problem u.engine c.args.best.now.held = subst (λ (e : EngineState). (c.in-Some.branch.flipped ≡ true) ⊎ IsClosed c.args.best.now.problem e c.args.best.now.held) (sym c.is_spent.ensures.unchanged) (c.is_spent.ensures.spent c.if-not-is_spent.false) in
    record {
      back = record {
        made_for = step.made_for c.loop-branch.invariant.back.made_for;
        at_path = record { root = c.loop-branch.invariant.back.at_path.root; at = step.at_path c.loop-branch.invariant.back.at_path.root c.loop-branch.invariant.back.at_path.at };
        known = subst (λ (e : EngineState). KnowsHeldPrefix e.trail c.args.best.now.held c.is_spent.new.agreed) (sym c.is_spent.ensures.unchanged) c.is_spent.ensures.known;
        constraints = same_constraints_onward c.args.state.now.engine c.loop-branch.state.engine u.engine c.loop-branch.invariant.back.constraints step.constraints;
        returns = c.loop-branch.invariant.back.returns;
      };
      shortened = record { taken_back = c.in-Some.branch ∷ s.0; path = s.1 };
      leaving = λ start h. leaving_on c.args.best.now.problem start c.loop-branch.state u c.in-Some.branch c.args.best.now.held step spent (c.loop-branch.invariant.leaving start h);
    }

pub is_spent-requires-clause-engine : goal.is_spent-requires-clause-engine
is_spent-requires-clause-engine g c = same_engine c.args.best.now.problem c.loop-branch.state.engine c.undo_decision.new.engine c.undo_decision.ensures.constraints c.loop-branch.invariant.back.made_for.engine

pub returns-clause-finished : goal.returns-clause-finished
returns-clause-finished g c start h a below better = subst (λ (x : List Branch). LeavesOpen a x) c.in_default.ensures.no_decisions ((c.loop-branch.invariant.leaving start h).all_leave a below better)

pub loop-branch-init : goal.loop-branch-init
loop-branch-init g c = record {
  back = back_itself c.args.best.now.problem c.args.state.now c.args.best.now.held c.args.agreed.now c.requires;
  shortened = record { taken_back = []; path = sym (append-nil c.args.state.now.branches.items) };
  leaving = λ start h. h;
}

pub returns-then-not-is_spent-clause-back : goal.returns-then-not-is_spent-clause-back
returns-then-not-is_spent-clause-back g c =
    let u : SearchState _ = record { engine = c.is_spent.new.engine; branches = c.undo_decision.new.path; candidate = c.loop-branch.state.candidate; order = c.loop-branch.state.order; root_work = c.loop-branch.state.root_work; dive = c.loop-branch.state.dive } in
    let step : IsStep c.args.best.now.problem c.loop-branch.state u c.in-Some.branch = step_of c.args.best.now.problem c.loop-branch.state u c.undo_decision.new.engine c.in-Some.branch c.in-Some.ensures.popped c.undo_decision.ensures.constraints c.undo_decision.ensures.at_path c.in-Some.ensures.free c.undo_decision.ensures.same_room refl c.is_spent.ensures.unchanged in
    record {
      made_for = step.made_for c.loop-branch.invariant.back.made_for;
      at_path = record { root = c.loop-branch.invariant.back.at_path.root; at = step.at_path c.loop-branch.invariant.back.at_path.root c.loop-branch.invariant.back.at_path.at };
      known = subst (λ (e : EngineState). KnowsHeldPrefix e.trail c.args.best.now.held c.is_spent.new.agreed) (sym c.is_spent.ensures.unchanged) c.is_spent.ensures.known;
      constraints = same_constraints_onward c.args.state.now.engine c.loop-branch.state.engine u.engine c.loop-branch.invariant.back.constraints step.constraints;
      returns = c.loop-branch.invariant.back.returns;
    }

pub returns-clause-back : goal.returns-clause-back
returns-clause-back g c =
    let u : SearchState _ = record { engine = c.undo_decision.new.engine; branches = c.undo_decision.new.path; candidate = c.loop-branch.state.candidate; order = c.loop-branch.state.order; root_work = c.loop-branch.state.root_work; dive = c.loop-branch.state.dive } in
    let before = c.loop-branch.invariant.back in
    record {
      made_for = state_moves c.args.best.now.problem c.loop-branch.state u c.undo_decision.ensures.constraints c.undo_decision.ensures.same_room refl before.made_for;
      at_path = record { root = before.at_path.root; at = c.undo_decision.ensures.at_path before.at_path.root before.at_path.at };
      known = c.undo_decision.ensures.known;
      constraints = same_constraints_onward c.args.state.now.engine c.loop-branch.state.engine c.undo_decision.new.engine before.constraints c.undo_decision.ensures.constraints;
      returns = before.returns;
    }
