use Rattle.std.proofs.Common.{rules, ◌≡◌, ◌++◌, [], List, Bool, Option, subst, sym}
use Rattle.std.proofs.lemmas.List.Elements.{All-nil, All-append}
use Rattle.pb_inst.specs.Literal.{Literal}
use Rattle.pb_inst.specs.Cubes.{MakesTrue}
use Rattle.pb_inst.specs.Incumbent.{Solution}
use Rattle.pb_inst.specs.Meaning.{literal_value}
use Rattle.pb_inst.specs.Problem.{Problem}
use Rattle.pb_control.specs.declared.branch.Branch.{Branch}
use Rattle.pb_engine.specs.EngineState.{EngineState}
use Rattle.pb_prune.specs.Held.{IsImprovement, IsNotAfter}
use Rattle.pb_prune.specs.Solutions.{SatisfiesUnder}
use Rattle.pb_subtree.specs.Paths.{LiesOpen}
use Rattle.pb_subtree.proofs.HeldLemmas.{improvement_on_earlier}
use Rattle.pb_subtree.proofs.whole.begin_whole.Goals as goal

-- what is before a later best makes the root true, since it is before the earlier one
root_true : (p : Problem) (s : EngineState) (root : List Literal) (old new : Option Solution) (a : List Bool) → IsNotAfter p old new → ((a : List Bool) → SatisfiesUnder s [] a → IsImprovement p a old → MakesTrue a root) → SatisfiesUnder s [] a → IsImprovement p a new → MakesTrue a root
root_true p s root old new a later fixed h better = fixed a h (improvement_on_earlier p a old new later better)

-- so it is a solution under the root
under_root : (s : EngineState) (root assumed : List Literal) (a : List Bool) → assumed ≡ root → SatisfiesUnder s [] a → MakesTrue a root → SatisfiesUnder s (assumed ++ []) a
under_root s root assumed a is h makes_true = subst (λ (xs : List Literal). SatisfiesUnder s (xs ++ []) a) (sym is) (record { solution = h.solution; makes_true = All-append (λ l. literal_value a l ≡ 1) root [] makes_true (All-nil (λ l. literal_value a l ≡ 1)) })

pub returns-else-eq-clause-searched : goal.returns-else-eq-clause-searched
returns-else-eq-clause-searched g c whole a h better =
    let found = c.search_under-outcome in
    let makes_true = root_true c.args.best.now.problem c.args.state.now.engine c.args.root.now.items c.args.best.now.held found.new.best.held a found.ensures.ended.moves_on.not_after c.requires.root h better in
    found.ensures.searched whole a (under_root c.args.state.now.engine c.args.root.now.items c.deref.result.now a c.deref.ensures.value h makes_true) better

pub returns-else-eq-clause-root : goal.returns-else-eq-clause-root
returns-else-eq-clause-root g c a h better =
    root_true c.args.best.now.problem c.args.state.now.engine c.args.root.now.items c.args.best.now.held c.search_under-outcome.new.best.held a c.search_under-outcome.ensures.ended.moves_on.not_after c.requires.root h better

pub returns-then-eq-clause-root : goal.returns-then-eq-clause-root
returns-then-eq-clause-root g c a h better =
    let found = c.search_under-outcome in
    let makes_true = root_true c.args.best.now.problem c.args.state.now.engine c.args.root.now.items c.args.best.now.held found.new.best.held a found.ensures.ended.moves_on.not_after c.requires.root h better in
    let lies : LiesOpen a found.new.state.branches.items = (found.ensures.broken_off (search rules)).all_open a (under_root c.args.state.now.engine c.args.root.now.items c.deref.result.now a c.deref.ensures.value h makes_true) better in
    c.note_fixed.ensures.fixed a (subst (λ (path : List Branch). LiesOpen a path) (sym c.deref-then-eq.ensures.value) lies) makes_true
