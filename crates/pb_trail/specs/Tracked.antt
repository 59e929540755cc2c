-- A trail with the sums and values that are kept up to date beside it.
use Rattle.std.specs.Prelude.{◌≡◌, ℕ, ◌-◌, ◌<◌, ◌≤◌, ◌^◌, Bool, List, length, take, All, Option, None, is_some, count_by, slice_index, slice_index_or}
use Rattle.pb_inst.specs.Literal.{Literal}
use Rattle.pb_rows.specs.Occurrences.{Occurrence}
use Rattle.pb_normal.specs.NormalForm.{PositiveRow, NormalForm}
use Rattle.pb_trail.specs.Trail.{value_on, reachable}
use Rattle.pb_trail.specs.SlackCache.{SlackCacheState, IsKnown}
use Rattle.pb_rows.specs.Constraints.{AreRowsOver, Constraints, row_at}

-- rows with the occurrences of their literals, and a trail over their variables
pub record Tracked : Type 0 where
  pub form : NormalForm
  pub vars : ℕ
  pub rows : List PositiveRow
  pub occurrences : List Occurrence
  pub starts : List ℕ
  pub units : List Occurrence
  pub unit_starts : List ℕ
  pub trail : List Literal

-- the trail over the rows
abbrev pub tracked_of : Constraints → List Literal → Tracked
tracked_of c trail = record { form = c.form; vars = c.vars; rows = c.rows; occurrences = c.occurrences; starts = c.starts; units = c.units; unit_starts = c.unit_starts; trail = trail }

-- no variable comes twice: before each literal its variable has no value
abbrev pub IsConsistent : List Literal → Type 0
IsConsistent trail = (k : ℕ) (d : Literal) → k < length trail → value_on (take k trail) (slice_index_or trail k d).var ≡ None

-- the literals of a trail over the variables 1 to `vars`, a sum for each of some rows, and which were looked through
pub record TrailState : Type 0 where
  pub vars : ℕ
  pub lits : List Literal
  pub sums : List ℕ
  pub slack_cache : SlackCacheState

-- each variable's value is its value on the trail, whose literals are of these variables, and there is room for all of them
pub record AreValues (marks : List (Option Bool)) (trail : List Literal) (capacity : ℕ) : Type 0 where
  pub values : (v : ℕ) → 1 ≤ v → v ≤ length marks → slice_index_or marks (v - 1) None ≡ value_on trail v
  pub assigned : count_by is_some marks ≡ length trail
  pub within : All (λ l. (1 ≤ l.var) × (l.var ≤ length marks)) trail
  pub consistent : IsConsistent trail
  pub room : length marks ≤ capacity
  pub small : length marks < 2 ^ 32

-- no literal of the row without a value has a coefficient over the slack
abbrev pub HasNothingOver : ℕ → List Literal → PositiveRow → Type 0
HasNothingOver slack trail row = All (λ t. value_on trail t.lit.var ≡ None → t.coef ≤ slack) row.terms

-- the trail is over the variables of the rows, each row's sum is what it can still reach under the trail, and what is known of a row that was looked through is so
pub record IsUpToDate (c : Constraints) (t : TrailState) : Type 0 where
  pub rows_over : AreRowsOver c.vars c.rows
  pub vars : t.vars ≡ c.vars
  pub sum_count : length t.sums ≡ length c.rows
  pub sums : (r : ℕ) → r < length c.rows → slice_index t.sums r ≡ reachable t.lits (row_at c.rows r).terms
  pub slack_cache : (row slack : ℕ) → IsKnown t.slack_cache row slack → HasNothingOver slack t.lits (row_at c.rows row)
