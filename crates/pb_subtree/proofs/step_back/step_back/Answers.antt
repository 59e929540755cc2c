use Rattle.std.proofs.Common.{refl}
use Rattle.pb_subtree.specs.declared.search_state.SearchState.{SearchState}
use Rattle.pb_subtree.proofs.Engines.{same_constraints_onward}
use Rattle.pb_subtree.proofs.SearchLemmas.{IsStep, back_itself, step_of, under_way_without}
use Rattle.pb_subtree.proofs.step_back.step_back.Goals as goal

pub loop-state-preserved : goal.loop-state-preserved
loop-state-preserved g c =
    let u : SearchState _ = record { engine = c.undo_decision.new.engine; branches = c.undo_decision.new.path; candidate = c.loop-state.state.candidate; order = c.loop-state.state.order; root_work = c.loop-state.state.root_work; dive = c.loop-state.state.dive } in
    let step : IsStep c.args.best.now.problem c.loop-state.state u c.in-Some.field-0 = step_of c.args.best.now.problem c.loop-state.state u c.undo_decision.new.engine c.in-Some.field-0 c.in-Some.ensures.popped c.undo_decision.ensures.constraints c.undo_decision.ensures.at_path c.in-Some.ensures.free c.undo_decision.ensures.same_room refl refl in
    let before = c.loop-state.invariant.back in
    record {
      back = record {
        made_for = step.made_for before.made_for;
        at_path = record { root = before.at_path.root; at = step.at_path before.at_path.root before.at_path.at };
        known = c.undo_decision.ensures.known;
        constraints = same_constraints_onward c.args.state.now.engine c.loop-state.state.engine u.engine before.constraints step.constraints;
        returns = before.returns;
      };
      under_way = λ start h. under_way_without c.args.best.now.problem start c.loop-state.state u c.in-Some.field-0 c.args.best.now.held step (c.loop-state.invariant.under_way start h);
    }

pub loop-state-init : goal.loop-state-init
loop-state-init g c = record {
  back = back_itself c.args.best.now.problem c.args.state.now c.args.best.now.held c.args.agreed.now c.requires;
  under_way = λ start h. h;
}
