-- What the state of a search keeps true.
use Rattle.std.specs.Prelude.{◌≡◌, ℕ, ◌<◌, ◌≤◌, Bool, false, List, [], ◌∷◌, ◌++◌, length, All, ◌⊎◌, IsSomeAnd, Option, vec_capacity, slice_index_or}
use Rattle.pb_inst.specs.Literal.{Literal}
use Rattle.pb_inst.specs.Problem.{Problem}
use Rattle.pb_inst.specs.Incumbent.{Incumbent, Solution}
use Rattle.pb_inst.specs.declared.limits.TheConstants.{MAX_VARS}
use Rattle.pb_engine.specs.EngineState.{EngineState}
use Rattle.pb_engine.specs.Free.{IsFree}
use Rattle.pb_engine.specs.Soundness.{assumptions, IsSoundTrail}
use Rattle.pb_control.specs.declared.branch.Branch.{Branch}
use Rattle.pb_subtree.specs.declared.search_state.SearchState.{SearchState}
use Rattle.pb_prune.specs.Held.{IsImprovement}
use Rattle.pb_subtree.specs.Paths.{decided, LiesOpen, LeavesOpen, search_steps}
use Rattle.pb_prune.specs.Solutions.{SameConstraints, SatisfiesUnder}
use Rattle.pb_prune.specs.Subtree.{IsEngineOf, IsOneSided, bit_on}

-- the state was made for this instance
pub record IsStateOf {C : Type 0} (p : Problem) (t : SearchState C) : Type 0 where
  pub engine : IsEngineOf p t.engine
  pub few_variables : p.vars ≤ MAX_VARS
  pub candidate : length t.candidate ≡ p.vars
  pub room : p.vars ≤ vec_capacity t.branches

-- the assumptions on the trail are those of the root and then the decisions
pub record IsAtPath (root : List Literal) (s : EngineState) (path : List Branch) : Type 0 where
  pub assumed : assumptions s ≡ root ++ decided path
  pub variables : All (λ b. b.lit.var ≤ s.vars) path
  pub sound : IsSoundTrail s

-- the same, for some root
pub record IsAtSomePath (s : EngineState) (path : List Branch) : Type 0 where
  pub root : List Literal
  pub at : IsAtPath root s path

-- the constraints, assumptions, decisions and room are the same, and as many steps back to the root are left
pub record SameBranches {C : Type 0} (old new : SearchState C) : Type 0 where
  pub constraints : SameConstraints old.engine new.engine
  pub assumptions : assumptions new.engine ≡ assumptions old.engine
  pub branches : new.branches ≡ old.branches
  pub room : length new.candidate ≡ length old.candidate
  pub returns : new.root_work ≡ old.root_work

-- the decisions and the room are the same, and as many steps back to the root are left
pub record SameBranchesAndRoom {C : Type 0} (old new : SearchState C) : Type 0 where
  pub branches : new.branches ≡ old.branches
  pub room : length new.candidate ≡ length old.candidate
  pub returns : new.root_work ≡ old.root_work

-- the assignment has 1 where the trail says so, and 0 elsewhere
abbrev pub IsFilledFrom : List Literal → List Bool → Type 0
IsFilledFrom trail a = (k : ℕ) → k < length a → slice_index_or a k false ≡ bit_on trail k

-- below the place the trail, with zeros elsewhere, and the assignment are the same
abbrev pub AgreesBelow : List Literal → List Bool → ℕ → Type 0
AgreesBelow trail a place = (k : ℕ) → k < place → slice_index_or a k false ≡ bit_on trail k

-- both values of the decision are to be tried, or the other one can lead to nothing better
abbrev pub IsFreshOrOneSided : Problem → EngineState → Option Solution → Branch → Type 0
IsFreshOrOneSided p s held b = (b.flipped ≡ false) ⊎ IsOneSided p s held b.lit

-- where a search stands that began at the trail of `start`: every solution below the start that is before what is held lies below an open branch
pub record IsUnderWay {C : Type 0} (p : Problem) (start : EngineState) (t : SearchState C) (held : Option Solution) : Type 0 where
  pub made_for : IsStateOf p t
  pub at_path : IsAtPath (assumptions start) t.engine t.branches.items
  pub constraints : SameConstraints start t.engine
  pub all_open : (a : List Bool) → SatisfiesUnder start (assumptions start) a → IsImprovement p a held → LiesOpen a t.branches.items

-- the same, once the place is closed: every such solution leaves the path at an open branch
pub record IsLeaving {C : Type 0} (p : Problem) (start : EngineState) (t : SearchState C) (held : Option Solution) : Type 0 where
  pub made_for : IsStateOf p t
  pub at_path : IsAtPath (assumptions start) t.engine t.branches.items
  pub constraints : SameConstraints start t.engine
  pub all_leave : (a : List Bool) → SatisfiesUnder start (assumptions start) a → IsImprovement p a held → LeavesOpen a t.branches.items

-- the same as under way, once this decision is made
pub record IsNext {C : Type 0} (p : Problem) (start : EngineState) (t : SearchState C) (next : Branch) (held : Option Solution) : Type 0 where
  pub made_for : IsStateOf p t
  pub at_path : IsAtPath (assumptions start) t.engine t.branches.items
  pub constraints : SameConstraints start t.engine
  pub free : IsFree t.engine next.lit
  pub all_open : (a : List Bool) → SatisfiesUnder start (assumptions start) a → IsImprovement p a held → LiesOpen a (t.branches.items ++ next ∷ [])

-- the decision leaves fewer steps
abbrev pub LeavesFewer : {C : Type 0} → Problem → SearchState C → SearchState C → Branch → Type 0
LeavesFewer {C} p old new next = length new.branches.items < p.vars → search_steps p.vars new.root_work (new.branches.items ++ next ∷ []) < search_steps p.vars old.root_work old.branches.items

-- no solution below the start is before what is held
abbrev pub IsSearched : Problem → EngineState → Option Solution → Type 0
IsSearched p start held = (a : List Bool) → SatisfiesUnder start (assumptions start) a → ¬ IsImprovement p a held

-- a search under the assumed literals was broken off where it stands: every solution under them that is before what is held lies below an open branch
pub record IsBrokenOff {C : Type 0} (p : Problem) (s : EngineState) (assumed : List Literal) (t : SearchState C) (held : Option Solution) : Type 0 where
  pub variables : All (λ b. b.lit.var ≤ s.vars) t.branches.items
  pub all_open : (a : List Bool) → SatisfiesUnder s assumed a → IsImprovement p a held → LiesOpen a t.branches.items

-- what is held is as before, or is a solution below the start
abbrev pub IsOwn : EngineState → Incumbent → Incumbent → Type 0
IsOwn start old new = (new ≡ old) ⊎ IsSomeAnd new.held (λ s. SatisfiesUnder start (assumptions start) s.assignment)
