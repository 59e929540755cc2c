-- What the work at a node leaves, and what comes next.
use Rattle.std.specs.Prelude.{◌≡◌, ◌⊎◌, ℕ, Bool, false, true, IsSomeAnd, IfSome, IfNone, List, Option}
use Rattle.pb_inst.specs.Incumbent.{Incumbent, Solution}
use Rattle.pb_inst.specs.Literal.{Literal}
use Rattle.pb_inst.specs.Problem.{Problem}
use Rattle.pb_prune.specs.AgreedPrefix.{KnowsHeldPrefix}
use Rattle.pb_prune.specs.declared.agreed_prefix.AgreedPrefix.{AgreedPrefix}
use Rattle.pb_engine.specs.EngineState.{EngineState}
use Rattle.pb_engine.specs.Free.{IsFree}
use Rattle.pb_engine.specs.Soundness.{IsFull, IsSolved, IsSoundTrail}
use Rattle.pb_control.specs.Budget.{IsLeftOf, IsPaidFrom}
use Rattle.pb_control.specs.declared.branch.Branch.{Branch}
use Rattle.pb_subtree.specs.declared.run.Run.{Run}
use Rattle.pb_subtree.specs.declared.search_state.SearchState.{SearchState}
use Rattle.pb_prune.specs.Held.{MovesOn}
use Rattle.pb_prune.specs.Solutions.{SameConstraints, Completes}
use Rattle.pb_subtree.specs.SearchState.{IsStateOf, IsAtSomePath, IsFreshOrOneSided, SameBranches, SameBranchesAndRoom, IsUnderWay, IsNext, IsSearched, IsOwn}
use Rattle.pb_prune.specs.Subtree.{IsClosed, IsEngineOf}

-- the search stands at a node, and may go on there: the state was made for the instance, its trail is sound, and what it is known to agree with of what is held is so
pub record IsAtNode {C : Type 0} (p : Problem) (t : SearchState C) (held : Option Solution) (agreed : AgreedPrefix) : Type 0 where
  pub state : IsStateOf p t
  pub sound : IsSoundTrail t.engine
  pub known : KnowsHeldPrefix t.engine.trail held agreed

-- the search stands at the end of a path of decisions: the state was made for the instance, and what it is known to agree with of what is held is so
pub record IsOnPath {C : Type 0} (p : Problem) (t : SearchState C) (held : Option Solution) (agreed : AgreedPrefix) : Type 0 where
  pub state : IsStateOf p t
  pub at_path : IsAtSomePath t.engine t.branches.items
  pub known : KnowsHeldPrefix t.engine.trail held agreed

-- decisions were taken back: the search stands at the end of a path, with the same constraints, and as many steps back to the root are left
pub record IsBackOnPath {C : Type 0} (p : Problem) (old new : SearchState C) (held : Option Solution) (agreed : AgreedPrefix) : Type 0 where
  pub made_for : IsStateOf p new
  pub at_path : IsAtSomePath new.engine new.branches.items
  pub known : KnowsHeldPrefix new.engine.trail held agreed
  pub constraints : SameConstraints old.engine new.engine
  pub returns : new.root_work ≡ old.root_work

-- the trail is full and meets all constraints, and there is room for its assignment
pub record IsAtLeaf (p : Problem) (s : EngineState) (places : ℕ) : Type 0 where
  pub engine : IsEngineOf p s
  pub room : places ≡ p.vars
  pub full : IsFull s
  pub solved : IsSolved s
  pub sound : IsSoundTrail s

-- what the search goes on with: the share keeps to its promises, what is known of the agreed prefix is so, and the budget is what was left of it
pub record GoesOn {S : Type 0} (keeps : S → S → Type 0) (lends : S → Bool) (old new : S) (trail : List Literal) (held : Option Solution) (before after : Run) : Type 0 where
  pub kept : keeps old new
  pub same_lending : lends new ≡ lends old
  pub known : KnowsHeldPrefix trail held after.agreed
  pub budget : IsLeftOf before.left after.left

-- the incumbent may have been handed an assignment: the search stays where it is, what is held moves on, and the share keeps to its promises
pub record StaysWhileHeld {C S : Type 0} (keeps : S → S → Type 0) (lends : S → Bool) (old new : S) (t u : SearchState C) (before after : Incumbent) : Type 0 where
  pub engine : u.engine ≡ t.engine
  pub beside : SameBranchesAndRoom t u
  pub moves_on : MovesOn before after
  pub kept : keeps old new
  pub same_lending : lends new ≡ lends old

-- what is held is as before, or completes the trail
abbrev pub IsFoundAt : EngineState → Incumbent → Incumbent → Type 0
IsFoundAt s old new = (new ≡ old) ⊎ IsSomeAnd new.held (λ t. Completes s t.assignment)

-- a node was expanded, beside a share that lends or not: the decision to make next may be made, and where there is none, no completion of the trail is before what is held
pub record IsExpanded {C : Type 0} (lends : Bool) (old new : SearchState C) (before after : Incumbent) (next : Option Branch) : Type 0 where
  pub free : IfSome next (λ b. IsFree new.engine b.lit)
  pub sides : IfSome next (λ b. IsFreshOrOneSided before.problem new.engine after.held b)
  pub closed : IfNone next (IsClosed before.problem new.engine after.held)
  pub same_branches : SameBranches old new
  pub sound : IsSoundTrail new.engine
  pub moves_on : MovesOn before after
  pub own : lends ≡ false → IsFoundAt new.engine before after

-- the search dived, beside a share that lends or not, and is where it was
pub record IsBackFromDive {C : Type 0} (lends : Bool) (old new : SearchState C) (before after : Incumbent) : Type 0 where
  pub taken_back : new.engine ≡ old.engine
  pub same_branches : SameBranches old new
  pub moves_on : MovesOn before after
  pub own : lends ≡ false → IsFoundAt old.engine before after

-- the search dived once or more, is where it was, and goes on; dives to something better took decisions off the budget, unless the trail was full before
pub record IsDived {C S : Type 0} (keeps : S → S → Type 0) (lends : S → Bool) (old new : S) (t u : SearchState C) (i j : Incumbent) (before after : Run) (better : Bool) : Type 0 where
  pub back : IsBackFromDive (lends old) t u i j
  pub goes_on : GoesOn keeps lends old new u.engine.trail j.held before after
  pub paid : better ≡ true → IsFull t.engine ⊎ IsPaidFrom before.left after.left

-- the search is under way to the decision to make next, or finished where there is none
pub record IsFurther {C : Type 0} (lends : Bool) (old new : SearchState C) (before after : Incumbent) (next : Option Branch) : Type 0 where
  pub onward : IfSome next (λ b. (start : EngineState) → IsUnderWay before.problem start old before.held → IsNext before.problem start new b after.held)
  pub finished : IfNone next ((start : EngineState) → IsUnderWay before.problem start old before.held → IsSearched before.problem start after.held)
  pub moves_on : MovesOn before after
  pub own : lends ≡ false → (start : EngineState) → IsUnderWay before.problem start old before.held → IsOwn start before after
  pub made_for : IsStateOf before.problem new
  pub constraints : SameConstraints old.engine new.engine
