-- The path from the root of the search tree to where the search stands: the decisions, the earliest first.
use Rattle.std.specs.Prelude.{◌≡◌, ℕ, ◌+◌, ◌*◌, ◌-◌, ◌^◌, Bool, true, false, not, List, [], ◌∷◌, map, ◌⊎◌, if◌then◌else◌}
use Rattle.pb_inst.specs.Literal.{Literal}
use Rattle.pb_inst.specs.Meaning.{literal_value}
use Rattle.pb_control.specs.declared.branch.Branch.{Branch}

-- the literals that were decided
abbrev pub decided : List Branch → List Literal
decided path = map (λ b. b.lit) path

-- the assignment leaves the path at a branch whose other value is still to be tried
abbrev pub LeavesOpen : List Bool → List Branch → Type 0
LeavesOpen a [] = ⊥
LeavesOpen a (b ∷ path) = ((literal_value a b.lit ≡ 1) × LeavesOpen a path) ⊎ ((literal_value a b.lit ≡ 0) × (b.flipped ≡ false))

-- the assignment lies below an open branch: it follows the path to its end, or leaves it at a branch whose other value is still to be tried
abbrev pub LiesOpen : List Bool → List Branch → Type 0
LiesOpen a [] = Unit {0}
LiesOpen a (b ∷ path) = ((literal_value a b.lit ≡ 1) × LiesOpen a path) ⊎ ((literal_value a b.lit ≡ 0) × (b.flipped ≡ false))

-- a bound on the steps that are left, with n variables to decide
abbrev pub steps_left : ℕ → List Branch → ℕ
steps_left n [] = 3 ^ n
steps_left n (b ∷ path) = (if b.flipped then 0 else 3 ^ (n - 1)) + steps_left (n - 1) path

-- that bound for a search that may still step back to its root `returns` times
abbrev pub search_steps : ℕ → ℕ → List Branch → ℕ
search_steps n returns path = returns * 3 ^ n + steps_left n path

-- the decision is that of the other value
pub record IsOtherValue (first second : Branch) : Type 0 where
  pub same_variable : second.lit.var ≡ first.lit.var
  pub other_value : second.lit.positive ≡ not first.lit.positive
  pub flipped : second.flipped ≡ true
