-- How the search of a subtree ends.
use Rattle.std.specs.Prelude.{◌≡◌, ◌⊎◌, ℕ, Bool, Option, None, Some}
use Rattle.pb_inst.specs.Incumbent.{Incumbent, IsSound}
use Rattle.pb_control.specs.Budget.{IsLeftOf}
use Rattle.pb_control.specs.Goal.{IsMet}
use Rattle.pb_control.specs.declared.goal.Goal.{Goal}
use Rattle.pb_prune.specs.Held.{MovesOn}
use Rattle.pb_prune.specs.Solutions.{SameConstraints}
use Rattle.pb_subtree.specs.SearchState.{IsStateOf}
use Rattle.pb_subtree.specs.declared.outcome.Outcome.{Outcome}
use Rattle.pb_subtree.specs.declared.outcome.Outcome.TheVariants.{Cut}
use Rattle.pb_subtree.specs.declared.search_state.SearchState.{SearchState}

-- The search ended. Where it is to go through all, it is cut only where nothing is left of the decisions that were allowed, or the goal is met.
-- What is held moved on and is a solution, the share keeps to its promises, and the state can search the same constraints again.
pub record IsEnded {C S : Type 0} (keeps : S → S → Type 0) (lends : S → Bool) (old new : S) (goal : Goal) (turns : Option ℕ) (t u : SearchState C) (before after : Incumbent) (allowed left : Option ℕ) (outcome : Outcome) : Type 0 where
  pub cut : turns ≡ None → outcome ≡ Cut → (left ≡ Some 0) ⊎ IsMet goal after.held
  pub budget : IsLeftOf allowed left
  pub moves_on : MovesOn before after
  pub held_sound : IsSound after
  pub kept : keeps old new
  pub same_lending : lends new ≡ lends old
  pub made_for : IsStateOf before.problem u
  pub constraints : SameConstraints t.engine u.engine
