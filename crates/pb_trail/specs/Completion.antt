-- Completions of a trail, and what follows for all of them.
use Rattle.std.specs.Prelude.{◌≡◌, Bool, List, All, None, ℤ, pos, ◌≤ℤ◌, ◌+ℤ◌}
use Rattle.pb_inst.specs.Literal.{Literal}
use Rattle.pb_inst.specs.Meaning.{literal_value}
use Rattle.pb_normal.specs.NormalForm.{PositiveRow, MeetsRows, NormalForm, normal_cost}
use Rattle.pb_trail.specs.Trail.{slack, value_on, reached}

-- an assignment that makes every literal of the trail true and meets every row
pub record IsCompletion (rows : List PositiveRow) (trail : List Literal) (a : List Bool) : Type 0 where
  pub makes_true : All (λ l. literal_value a l ≡ 1) trail
  pub meets_rows : MeetsRows a rows

-- no assignment completes the trail
abbrev pub HasNoCompletion : List PositiveRow → List Literal → Type 0
HasNoCompletion rows trail = (a : List Bool) → ¬ IsCompletion rows trail a

-- every completion of the trail makes the literal true
abbrev pub IsForced : List PositiveRow → List Literal → Literal → Type 0
IsForced rows trail l = (a : List Bool) → IsCompletion rows trail a → literal_value a l ≡ 1

-- no coefficient of a literal without a value is greater than the slack, which is not negative
pub record IsSettled (trail : List Literal) (row : PositiveRow) : Type 0 where
  pub not_negative : pos 0 ≤ℤ slack trail row
  pub nothing_forced : All (λ t. value_on trail t.lit.var ≡ None → pos t.coef ≤ℤ slack trail row) row.terms

-- at most the cost of every completion, and at least the base and what the trail already pays
pub record IsLowerBound (form : NormalForm) (rows : List PositiveRow) (trail : List Literal) (bound : ℤ) : Type 0 where
  pub below_costs : (a : List Bool) → IsCompletion rows trail a → bound ≤ℤ normal_cost form a
  pub paid : (form.base +ℤ pos (reached trail form.objective)) ≤ℤ bound
