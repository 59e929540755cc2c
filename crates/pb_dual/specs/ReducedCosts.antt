-- What is left of the costs where rows are taken as often as their multipliers say.
use Rattle.std.specs.Prelude.{◌≡◌, ℕ, zero, suc, ◌+◌, ◌-◌, ◌*◌, ◌≤◌, Bool, true, false, List, [], ◌∷◌, Option, Some, None, length, min, slice_index, slice_index_or}
use Rattle.pb_inst.specs.Literal.{Literal}
use Rattle.pb_normal.specs.NormalForm.{PositiveRow, NormalForm}
use Rattle.pb_normal.specs.Literals.{weight_of}
use Rattle.pb_rows.specs.Index.{literal_place}
use Rattle.pb_trail.specs.Trail.{value_on}

-- the sum over the rows of what each is worth, times its multiplier
abbrev pub weighted : (PositiveRow → ℕ) → List ℕ → List PositiveRow → ℕ
weighted worth [] rows = 0
weighted worth (y ∷ ys) [] = 0
weighted worth (y ∷ ys) (row ∷ rows) = y * worth row + weighted worth ys rows

-- the sum of the degrees, each times its row's multiplier
abbrev pub promised : List ℕ → List PositiveRow → ℕ
promised ys rows = weighted (λ row. row.degree) ys rows

-- what the rows take off the literal's cost
abbrev pub taken_off : List ℕ → List PositiveRow → Literal → ℕ
taken_off ys rows l = weighted (λ row. weight_of l row.terms) ys rows

-- the scaled cost of the literal less what the rows take off, which may be below 0, and the origin more
abbrev pub IsReducedCost : ℕ → ℕ → NormalForm → List ℕ → Literal → ℕ → Type 0
IsReducedCost origin scale form ys l n = n + taken_off ys form.rows l ≡ origin + scale * weight_of l form.objective

abbrev pub reduced_cost : ℕ → ℕ → NormalForm → List ℕ → Literal → ℕ
reduced_cost origin scale form ys l = (origin + scale * weight_of l form.objective) - taken_off ys form.rows l

-- at the place of each literal stands its reduced cost
pub record AreReducedCosts (origin scale : ℕ) (form : NormalForm) (ys costs : List ℕ) : Type 0 where
  pub count : length costs ≡ 2 * form.vars
  pub each : (l : Literal) → 1 ≤ l.var → l.var ≤ form.vars → IsReducedCost origin scale form ys l (slice_index costs (literal_place l))

-- the reduced cost of a variable or its negation
abbrev pub cost_at : List ℕ → ℕ → Bool → ℕ
cost_at costs var positive = slice_index costs (literal_place (record { var = var; positive = positive }))

-- the sum over the variables 1 to n
abbrev pub over_variables : (ℕ → ℕ) → ℕ → ℕ
over_variables f zero = 0
over_variables f (suc n) = over_variables f n + f (suc n)

-- what a variable adds at least under a trail: the reduced cost of its true literal, the lesser of both where it has no value
abbrev pub least_cost : (Bool → ℕ) → Option Bool → ℕ
least_cost cost (Some positive) = cost positive
least_cost cost None = min (cost true) (cost false)

abbrev pub part_on : ℕ → ℕ → NormalForm → List ℕ → List Literal → ℕ → ℕ
part_on origin scale form ys trail var = least_cost (λ positive. reduced_cost origin scale form ys (record { var = var; positive = positive })) (value_on trail var)

-- what all variables add at least under a trail
unfoldable pub parts_on : ℕ → ℕ → NormalForm → List ℕ → List Literal → ℕ
parts_on origin scale form ys trail = over_variables (part_on origin scale form ys trail) form.vars

-- what a variable adds at least, where these are the reduced costs and this is its value
abbrev pub part : List ℕ → ℕ → Option Bool → ℕ
part costs var value = least_cost (λ positive. cost_at costs var positive) value

-- what all variables add, where these are their values, that of variable 1 first
unfoldable pub parts : List ℕ → List (Option Bool) → ℕ
parts costs values = over_variables (λ var. part costs var (slice_index_or values (var - 1) None)) (length values)
