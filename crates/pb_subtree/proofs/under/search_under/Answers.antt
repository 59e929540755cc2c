use Rattle.std.proofs.Common.{rules, ◌≡◌, ◌≤◌, ◌∙◌, ◌++◌, ℕ, All, Option, subst}
use Rattle.pb_inst.specs.Problem.{Problem}
use Rattle.pb_control.specs.Budget.{IsLeftOf}
use Rattle.pb_control.specs.declared.branch.Branch.{Branch}
use Rattle.pb_trail.specs.declared.propagation.Step.TheVariants.{Fixed, Conflict}
use Rattle.pb_control.proofs.BudgetLemmas.{left_itself}
use Rattle.pb_engine.specs.Soundness.{assumptions}
use Rattle.pb_subtree.specs.SearchState.{IsBrokenOff, IsSearched, IsStateOf}
use Rattle.pb_subtree.proofs.HeldLemmas.{moves_onward}
use Rattle.pb_subtree.proofs.Engines.{same_constraints_onward}
use Rattle.pb_subtree.proofs.RootLemmas.{root_solution, own_at_root}
use Rattle.pb_subtree.proofs.under.search_under.Goals as goal

pub returns-then-eq-clause-searched : goal.returns-then-eq-clause-searched
returns-then-eq-clause-searched g c _ a h =
    let is : c.stand_below.result ≡ Conflict = search rules in
    absurd (c.stand_below.ensures.conflict is a h.solution h.makes_true)

pub returns-clause-searched : goal.returns-clause-searched
returns-clause-searched g c whole a h =
    let fixed : c.stand_below.result ≡ Fixed = search rules in
    let done : IsSearched c.args.best.now.problem c.stand_below.new.engine c.search_subtree-outcome.new.best.held = subst (λ (p : Problem). IsSearched p c.stand_below.new.engine c.search_subtree-outcome.new.best.held) c.borrow.ensures.moves_on.same_instance (c.search_subtree-outcome.ensures.searched whole) in
    done a (root_solution c.args.state.now.engine c.stand_below.new.engine (c.args.root.now ++ c.args.cube.now) a c.stand_below.ensures.constraints (c.stand_below.ensures.fixed fixed a h.solution) h)

pub returns-clause-broken_off : goal.returns-clause-broken_off
returns-clause-broken_off g c cut =
    let fixed : c.stand_below.result ≡ Fixed = search rules in
    let t = c.search_subtree-outcome.new.state in
    let held = c.search_subtree-outcome.new.best.held in
    let off : IsBrokenOff c.args.best.now.problem c.stand_below.new.engine (assumptions c.stand_below.new.engine) t held =
    subst (λ (p : Problem). IsBrokenOff p c.stand_below.new.engine (assumptions c.stand_below.new.engine) t held) c.borrow.ensures.moves_on.same_instance (c.search_subtree-outcome.ensures.broken_off cut) in
    record {
      variables = subst (λ (n : ℕ). All (λ (b : Branch). b.lit.var ≤ n) t.branches.items) c.stand_below.ensures.constraints.vars off.variables;
      all_open = λ a h better. off.all_open a (root_solution c.args.state.now.engine c.stand_below.new.engine (c.args.root.now ++ c.args.cube.now) a c.stand_below.ensures.constraints (c.stand_below.ensures.fixed fixed a h.solution) h) better;
    }

pub returns-clause-own : goal.returns-clause-own
returns-clause-own g c none =
    let fixed : c.stand_below.result ≡ Fixed = search rules in
    own_at_root c.args.state.now.engine c.stand_below.new.engine (c.args.root.now ++ c.args.cube.now) c.args.best.now c.borrow.new.best c.search_subtree-outcome.new.best c.stand_below.ensures.constraints
    (λ a h. c.stand_below.ensures.fixed fixed a h)
    (c.borrow.ensures.own none) (c.search_subtree-outcome.ensures.own (c.borrow.ensures.same_lending ∙ none))

pub search_subtree-outcome-requires-clause-node : goal.search_subtree-outcome-requires-clause-node
search_subtree-outcome-requires-clause-node g c = record {
  state = search rules;
  sound = search rules;
  known = c.begin-run.ensures.known c.stand_below.new.engine.trail;
}

pub returns-then-eq-clause-ended : goal.returns-then-eq-clause-ended
returns-then-eq-clause-ended g c = record {
  cut = λ all. search rules;
  budget = left_itself c.args.left.now;
  moves_on = c.borrow.ensures.moves_on;
  held_sound = c.borrow.ensures.sound;
  kept = c.borrow.ensures.kept;
  same_lending = c.borrow.ensures.same_lending;
  made_for = search rules;
  constraints = c.stand_below.ensures.constraints;
}

pub returns-clause-ended : goal.returns-clause-ended
returns-clause-ended g c =
    let ended = c.search_subtree-outcome.ensures.ended in
    record {
      cut = ended.cut;
      budget = subst (λ (n : Option ℕ). IsLeftOf n c.search_subtree-outcome.new.run.left) c.begin-run.ensures.left ended.budget;
      moves_on = moves_onward c.args.best.now c.borrow.new.best c.search_subtree-outcome.new.best c.borrow.ensures.moves_on ended.moves_on;
      held_sound = ended.held_sound;
      kept = g.met.S.Share.keeps_onward _ _ _ c.borrow.ensures.kept ended.kept;
      same_lending = ended.same_lending ∙ c.borrow.ensures.same_lending;
      made_for = subst (λ (p : Problem). IsStateOf p c.search_subtree-outcome.new.state) c.borrow.ensures.moves_on.same_instance ended.made_for;
      constraints = same_constraints_onward c.args.state.now.engine c.stand_below.new.engine c.search_subtree-outcome.new.state.engine c.stand_below.ensures.constraints ended.constraints;
    }
