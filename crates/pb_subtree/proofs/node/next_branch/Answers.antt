use Rattle.std.proofs.Common.{rules, ◌∙◌, ◌++◌, ◌∷◌, [], ◌<◌, subst, sym, arith}
use Rattle.pb_inst.specs.Problem.{Problem}
use Rattle.pb_engine.specs.EngineState.{EngineState}
use Rattle.pb_subtree.specs.declared.search_state.SearchState.{SearchState}
use Rattle.pb_subtree.specs.Paths.{steps_left, search_steps}
use Rattle.pb_subtree.specs.SearchState.{IsStateOf, IsUnderWay, IsLeaving, IsNext, IsSearched, IsOwn, LeavesFewer}
use Rattle.pb_subtree.proofs.Engines.{same_constraints_onward}
use Rattle.pb_subtree.proofs.GoesOnLemmas.{goes_onward}
use Rattle.pb_subtree.proofs.HeldLemmas.{moves_onward}
use Rattle.pb_subtree.proofs.PathLemmas.{decide_falls, fewer_steps, fewer_from, step_back_falls}
use Rattle.pb_subtree.proofs.SearchLemmas.{open_next, expanded_state, some_path, closed_leaving, expanded_own, at_problem, if_some_map, if_none_map, own_onward, stays_under_way, with_work, leaving_with_work}
use Rattle.pb_subtree.proofs.node.next_branch.Goals as goal

pub returns-in-Some-clause-further : goal.returns-in-Some-clause-further
returns-in-Some-clause-further g c =
    let p = c.args.best.now.problem in
    let t = c.expand.new.state in
    let there = c.in-Some.ensures.expanded in
    record {
      onward = λ start h. open_next p start c.args.state.now t c.in-Some.branch c.args.best.now.held c.expand.new.best.held there.same_branches there.sound there.free there.sides there.moves_on.not_after h;
      finished = search rules;
      moves_on = there.moves_on;
      own = λ alone start h. expanded_own p start c.args.state.now t c.args.best.now c.expand.new.best there.same_branches there.sound (there.own alone) h;
      made_for = expanded_state p c.args.state.now t there.same_branches c.requires.state;
      constraints = there.same_branches.constraints;
    }

pub returns-in-Some-clause-fewer : goal.returns-in-Some-clause-fewer
returns-in-Some-clause-fewer g c few =
    let n = c.args.best.now.problem.vars in
    let path = c.expand.new.state.branches.items in
    let there = c.in-Some.ensures.expanded.same_branches in
    fewer_steps n c.args.state.now.root_work c.expand.new.state.root_work c.args.state.now.branches.items (path ++ c.in-Some.branch ∷ []) (omega (arith, there.returns))
    (subst (λ v. steps_left n (path ++ c.in-Some.branch ∷ []) < steps_left n v.items) there.branches (decide_falls n path c.in-Some.branch few))

pub returns-in-Some-take_return-clause-further : goal.returns-in-Some-take_return-clause-further
returns-in-Some-take_return-clause-further g c =
    let p = c.args.best.now.problem in
    let q = c.expand.new.best.problem in
    let held = c.expand.new.best.held in
    let last = c.expand_above.new.best.held in
    let w = c.take_return.new.self in
    let t = c.expand.new.state in
    let u = c.expand_above.new.state in
    let s : SearchState _ = record { engine = t.engine; branches = t.branches; candidate = t.candidate; order = t.order; root_work = w; dive = t.dive } in
    let there = c.in_default.ensures.expanded in
    let above = c.expand_above.ensures.further in
    let same = there.moves_on.same_instance in
    let under_way : (start : EngineState) → IsUnderWay p start c.args.state.now c.args.best.now.held → IsUnderWay p start s held =
    λ start h. with_work p start t w held (stays_under_way p start c.args.state.now t c.args.best.now.held held there.same_branches there.sound there.moves_on.not_after h) in
    record {
      onward =
          if_some_map c.expand_above.result (λ b. (start : EngineState) → IsUnderWay q start s held → IsNext q start u b last)
          (λ b. (start : EngineState) → IsUnderWay p start c.args.state.now c.args.best.now.held → IsNext p start u b last)
          (λ b f start h. at_problem p q (λ (x : Problem). IsUnderWay x start s held) (λ (x : Problem). IsNext x start u b last) same (f start) (under_way start h))
          above.onward;
      finished =
          if_none_map c.expand_above.result ((start : EngineState) → IsUnderWay q start s held → IsSearched q start last)
          ((start : EngineState) → IsUnderWay p start c.args.state.now c.args.best.now.held → IsSearched p start last)
          (λ f start h. at_problem p q (λ (x : Problem). IsUnderWay x start s held) (λ (x : Problem). IsSearched x start last) same (f start) (under_way start h))
          above.finished;
      moves_on = moves_onward c.args.best.now c.expand.new.best c.expand_above.new.best there.moves_on above.moves_on;
      own = λ alone start h.
          own_onward start c.args.best.now c.expand.new.best c.expand_above.new.best (expanded_own p start c.args.state.now t c.args.best.now c.expand.new.best there.same_branches there.sound (there.own alone) h)
          (at_problem p q (λ (x : Problem). IsUnderWay x start s held) (λ _. IsOwn start c.expand.new.best c.expand_above.new.best) same (above.own (c.expand.ensures.goes_on.same_lending ∙ alone) start) (under_way start h));
      made_for = subst (λ (x : Problem). IsStateOf x u) same above.made_for;
      constraints = same_constraints_onward c.args.state.now.engine t.engine u.engine there.same_branches.constraints above.constraints;
    }

pub returns-in-Some-take_return-clause-fewer : goal.returns-in-Some-take_return-clause-fewer
returns-in-Some-take_return-clause-fewer g c =
    if_some_map c.expand_above.result _ (λ b. LeavesFewer c.args.best.now.problem c.args.state.now c.expand_above.new.state b)
    (λ b _ few. step_back_falls c.args.best.now.problem.vars c.args.state.now.root_work c.expand_above.new.state.root_work c.args.state.now.branches.items c.expand_above.new.state.branches.items b
    (omega (arith, c.in_default.ensures.expanded.same_branches.returns, c.in-Some-take_return.ensures.used, c.expand_above.ensures.returns)) few)
    c.expand_above.ensures.further.onward

pub returns-in-None-clause-further : goal.returns-in-None-clause-further
returns-in-None-clause-further g c =
    let p = c.args.best.now.problem in
    let q = c.expand.new.best.problem in
    let held = c.expand.new.best.held in
    let w = c.take_return.new.self in
    let t = c.expand.new.state in
    let u = c.backtrack.new.state in
    let s : SearchState _ = record { engine = t.engine; branches = t.branches; candidate = t.candidate; order = t.order; root_work = w; dive = t.dive } in
    let there = c.in_default.ensures.expanded in
    let same = there.moves_on.same_instance in
    let leaving : (start : EngineState) → IsUnderWay p start c.args.state.now c.args.best.now.held → IsLeaving p start s held =
    λ start h. leaving_with_work p start t w held (closed_leaving p start c.args.state.now t c.args.best.now.held held there.same_branches there.sound there.closed there.moves_on.not_after h) in
    record {
      onward =
          if_some_map c.backtrack.result (λ b. (start : EngineState) → IsLeaving q start s held → IsNext q start u b held)
          (λ b. (start : EngineState) → IsUnderWay p start c.args.state.now c.args.best.now.held → IsNext p start u b held)
          (λ b f start h. at_problem p q (λ (x : Problem). IsLeaving x start s held) (λ (x : Problem). IsNext x start u b held) same (f start) (leaving start h))
          c.backtrack.ensures.next;
      finished =
          if_none_map c.backtrack.result ((start : EngineState) → IsLeaving q start s held → IsSearched q start held)
          ((start : EngineState) → IsUnderWay p start c.args.state.now c.args.best.now.held → IsSearched p start held)
          (λ f start h. at_problem p q (λ (x : Problem). IsLeaving x start s held) (λ (x : Problem). IsSearched x start held) same (f start) (leaving start h))
          c.backtrack.ensures.finished;
      moves_on = there.moves_on;
      own = λ alone start h. expanded_own p start c.args.state.now t c.args.best.now c.expand.new.best there.same_branches there.sound (there.own alone) h;
      made_for = subst (λ (x : Problem). IsStateOf x u) same c.backtrack.ensures.back.made_for;
      constraints = same_constraints_onward c.args.state.now.engine t.engine u.engine there.same_branches.constraints c.backtrack.ensures.back.constraints;
    }

pub returns-in-None-clause-fewer : goal.returns-in-None-clause-fewer
returns-in-None-clause-fewer g c =
    let p = c.args.best.now.problem in
    let q = c.expand.new.best.problem in
    let w = c.take_return.new.self in
    let t = c.expand.new.state in
    let s : SearchState _ = record { engine = t.engine; branches = t.branches; candidate = t.candidate; order = t.order; root_work = w; dive = t.dive } in
    let there = c.in_default.ensures.expanded in
    if_some_map c.backtrack.result (λ b. LeavesFewer q s c.backtrack.new.state b) (λ b. LeavesFewer p c.args.state.now c.backtrack.new.state b)
    (λ b f few.
    subst (λ v. search_steps p.vars c.backtrack.new.state.root_work (c.backtrack.new.state.branches.items ++ b ∷ []) < search_steps p.vars c.args.state.now.root_work v.items) there.same_branches.branches
    (fewer_from p.vars (search_steps p.vars c.backtrack.new.state.root_work (c.backtrack.new.state.branches.items ++ b ∷ [])) c.args.state.now.root_work w t.branches.items
    (omega (arith, there.same_branches.returns, c.in-None.ensures.kept))
    (subst (λ (x : Problem). LeavesFewer x s c.backtrack.new.state b) there.moves_on.same_instance f few)))
    c.backtrack.ensures.fewer

pub expand-requires : goal.expand-requires
expand-requires g c = record { state = c.requires.state; sound = c.requires.at_path.at.sound; known = c.requires.known }

pub expand_above-requires : goal.expand_above-requires
expand_above-requires g c =
    let there = c.in_default.ensures.expanded in
    let t = c.expand.new.state in
    let s : SearchState _ = record { engine = t.engine; branches = t.branches; candidate = t.candidate; order = t.order; root_work = c.take_return.new.self; dive = t.dive } in
    let made = expanded_state c.args.best.now.problem c.args.state.now t there.same_branches c.requires.state in
    record {
      state = subst (λ (x : Problem). IsStateOf x s) (sym there.moves_on.same_instance) (record { engine = made.engine; few_variables = made.few_variables; candidate = made.candidate; room = made.room });
      at_path = some_path c.args.state.now t there.same_branches there.sound c.requires.at_path;
      known = c.expand.ensures.goes_on.known;
    }

pub backtrack-requires : goal.backtrack-requires
backtrack-requires g c =
    let there = c.in_default.ensures.expanded in
    let t = c.expand.new.state in
    let s : SearchState _ = record { engine = t.engine; branches = t.branches; candidate = t.candidate; order = t.order; root_work = c.take_return.new.self; dive = t.dive } in
    let made = expanded_state c.args.best.now.problem c.args.state.now t there.same_branches c.requires.state in
    record {
      state = subst (λ (x : Problem). IsStateOf x s) (sym there.moves_on.same_instance) (record { engine = made.engine; few_variables = made.few_variables; candidate = made.candidate; room = made.room });
      at_path = some_path c.args.state.now t there.same_branches there.sound c.requires.at_path;
      known = c.expand.ensures.goes_on.known;
    }

pub returns-in-Some-clause-goes_on : goal.returns-in-Some-clause-goes_on
returns-in-Some-clause-goes_on g c = c.expand.ensures.goes_on

pub returns-in-Some-take_return-clause-goes_on : goal.returns-in-Some-take_return-clause-goes_on
returns-in-Some-take_return-clause-goes_on g c = goes_onward _ _ g.met.S.Share.keeps_onward _ _ _ _ _ _ _ _ _ _ c.expand.ensures.goes_on c.expand_above.ensures.goes_on

pub returns-in-None-clause-goes_on : goal.returns-in-None-clause-goes_on
returns-in-None-clause-goes_on g c = record {
  kept = c.expand.ensures.goes_on.kept;
  same_lending = c.expand.ensures.goes_on.same_lending;
  known = c.backtrack.ensures.back.known;
  budget = c.expand.ensures.goes_on.budget;
}
