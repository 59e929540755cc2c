-- What a search goes on with after one step and another.
use Rattle.std.proofs.Common.{◌∙◌, Bool, List, Option, refl, subst, sym}
use Rattle.pb_inst.specs.Incumbent.{Incumbent, Solution}
use Rattle.pb_inst.specs.Literal.{Literal}
use Rattle.pb_engine.specs.EngineState.{EngineState}
use Rattle.pb_prune.specs.AgreedPrefix.{KnowsHeldPrefix}
use Rattle.pb_prune.specs.declared.agreed_prefix.AgreedPrefix.{AgreedPrefix}
use Rattle.pb_control.specs.Budget.{IsLeftOf}
use Rattle.pb_control.proofs.BudgetLemmas.{left_after}
use Rattle.pb_subtree.specs.Nodes.{GoesOn, StaysWhileHeld}
use Rattle.pb_subtree.specs.declared.run.Run.{Run}
use Rattle.pb_subtree.specs.declared.search_state.SearchState.{SearchState}

-- nobody was asked or told of anything
pub goes_itself : {S : Type 0} (keeps : S → S → Type 0) (lends : S → Bool) (itself : (s : S) → keeps s s) (s : S) (trail : List Literal) (held : Option Solution) (a b : Run) → KnowsHeldPrefix trail held b.agreed → IsLeftOf a.left b.left → GoesOn keeps lends s s trail held a b
goes_itself keeps lends itself s trail held a b known budget = record { kept = itself s; same_lending = refl; known = known; budget = budget }

pub goes_onward : {S : Type 0} (keeps : S → S → Type 0) (lends : S → Bool) (onward : (r s t : S) → keeps r s → keeps s t → keeps r t) (r s t : S) (x y : List Literal) (h k : Option Solution) (a b c : Run) → GoesOn keeps lends r s x h a b → GoesOn keeps lends s t y k b c → GoesOn keeps lends r t y k a c
goes_onward keeps lends onward r s t x y h k a b c first second = record {
  kept = onward r s t first.kept second.kept;
  same_lending = second.same_lending ∙ first.same_lending;
  known = second.known;
  budget = left_after a.left b.left c.left first.budget second.budget;
}

-- the incumbent may have been handed an assignment meanwhile
pub held_onward : {C S : Type 0} (keeps : S → S → Type 0) (lends : S → Bool) (onward : (r s t : S) → keeps r s → keeps s t → keeps r t) (r s t : S) (x y : SearchState C) (i j : Incumbent) (a b : Run) (agreed : AgreedPrefix) → GoesOn keeps lends r s x.engine.trail i.held a b → StaysWhileHeld keeps lends s t x y i j → ((trail : List Literal) → KnowsHeldPrefix trail i.held b.agreed → KnowsHeldPrefix trail j.held agreed) → GoesOn keeps lends r t y.engine.trail j.held a (record b { agreed = agreed })
held_onward keeps lends onward r s t x y i j a b agreed first asked known = record {
  kept = onward r s t first.kept asked.kept;
  same_lending = asked.same_lending ∙ first.same_lending;
  known = subst (λ (e : EngineState). KnowsHeldPrefix e.trail j.held agreed) (sym asked.engine) (known x.engine.trail first.known);
  budget = first.budget;
}
