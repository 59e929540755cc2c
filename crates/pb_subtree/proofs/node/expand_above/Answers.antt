use Rattle.std.proofs.Common.{rules, subst, sym}
use Rattle.pb_inst.specs.Problem.{Problem}
use Rattle.pb_engine.specs.EngineState.{EngineState}
use Rattle.pb_subtree.specs.SearchState.{IsStateOf, IsUnderWay, IsLeaving, IsNext, IsSearched}
use Rattle.pb_subtree.proofs.Engines.{same_constraints_onward}
use Rattle.pb_subtree.proofs.SearchLemmas.{open_next, expanded_state, some_path, closed_leaving, expanded_own, at_problem, if_some_map, if_none_map}
use Rattle.pb_subtree.proofs.node.expand_above.Goals as goal

pub returns-in-Some-clause-further : goal.returns-in-Some-clause-further
returns-in-Some-clause-further g c =
    let p = c.args.best.now.problem in
    let s = c.step_back.new.state in
    let t = c.expand.new.state in
    let there = c.in-Some.ensures.expanded in
    record {
      onward = λ start h. open_next p start s t c.in-Some.branch c.args.best.now.held c.expand.new.best.held there.same_branches there.sound there.free there.sides there.moves_on.not_after (c.step_back.ensures.under_way start h);
      finished = search rules;
      moves_on = there.moves_on;
      own = λ alone start h. expanded_own p start s t c.args.best.now c.expand.new.best there.same_branches there.sound (there.own alone) (c.step_back.ensures.under_way start h);
      made_for = expanded_state p s t there.same_branches c.step_back.ensures.back.made_for;
      constraints = same_constraints_onward c.args.state.now.engine s.engine t.engine c.step_back.ensures.back.constraints there.same_branches.constraints;
    }

pub expand-requires : goal.expand-requires
expand-requires g c = record {
  state = c.step_back.ensures.back.made_for;
  sound = c.step_back.ensures.back.at_path.at.sound;
  known = c.step_back.ensures.back.known;
}

pub backtrack-requires : goal.backtrack-requires
backtrack-requires g c =
    let there = c.in_default.ensures.expanded in
    let s = c.step_back.new.state in
    let t = c.expand.new.state in
    let made : IsStateOf c.expand.new.best.problem t = subst (λ (x : Problem). IsStateOf x t) (sym there.moves_on.same_instance) (expanded_state c.args.best.now.problem s t there.same_branches c.step_back.ensures.back.made_for) in
    record { state = made; at_path = some_path s t there.same_branches there.sound c.step_back.ensures.back.at_path; known = c.expand.ensures.goes_on.known }

pub returns-clause-further : goal.returns-clause-further
returns-clause-further g c =
    let p = c.args.best.now.problem in
    let q = c.expand.new.best.problem in
    let held = c.expand.new.best.held in
    let s = c.step_back.new.state in
    let t = c.expand.new.state in
    let u = c.backtrack.new.state in
    let there = c.in_default.ensures.expanded in
    let same = there.moves_on.same_instance in
    record {
      onward =
          if_some_map c.backtrack.result (λ b. (start : EngineState) → IsLeaving q start t held → IsNext q start u b held)
          (λ b. (start : EngineState) → IsUnderWay p start c.args.state.now c.args.best.now.held → IsNext p start u b held)
          (λ b f start h. at_problem p q (λ (x : Problem). IsLeaving x start t held) (λ (x : Problem). IsNext x start u b held) same (f start)
          (closed_leaving p start s t c.args.best.now.held held there.same_branches there.sound there.closed there.moves_on.not_after (c.step_back.ensures.under_way start h)))
          c.backtrack.ensures.next;
      finished =
          if_none_map c.backtrack.result ((start : EngineState) → IsLeaving q start t held → IsSearched q start held)
          ((start : EngineState) → IsUnderWay p start c.args.state.now c.args.best.now.held → IsSearched p start held)
          (λ f start h. at_problem p q (λ (x : Problem). IsLeaving x start t held) (λ (x : Problem). IsSearched x start held) same (f start)
          (closed_leaving p start s t c.args.best.now.held held there.same_branches there.sound there.closed there.moves_on.not_after (c.step_back.ensures.under_way start h)))
          c.backtrack.ensures.finished;
      moves_on = there.moves_on;
      own = λ alone start h. expanded_own p start s t c.args.best.now c.expand.new.best there.same_branches there.sound (there.own alone) (c.step_back.ensures.under_way start h);
      made_for = subst (λ (x : Problem). IsStateOf x u) same c.backtrack.ensures.back.made_for;
      constraints = same_constraints_onward c.args.state.now.engine t.engine u.engine (same_constraints_onward c.args.state.now.engine s.engine t.engine c.step_back.ensures.back.constraints there.same_branches.constraints) c.backtrack.ensures.back.constraints;
    }

pub returns-in-Some-clause-goes_on : goal.returns-in-Some-clause-goes_on
returns-in-Some-clause-goes_on g c = record {
  kept = c.expand.ensures.goes_on.kept;
  same_lending = c.expand.ensures.goes_on.same_lending;
  known = c.expand.ensures.goes_on.known;
  budget = c.expand.ensures.goes_on.budget;
}

pub returns-clause-goes_on : goal.returns-clause-goes_on
returns-clause-goes_on g c = record {
  kept = c.expand.ensures.goes_on.kept;
  same_lending = c.expand.ensures.goes_on.same_lending;
  known = c.backtrack.ensures.back.known;
  budget = c.expand.ensures.goes_on.budget;
}
