-- The rows of a normal form, and the clauses of cubes, with the occurrences of each literal.
use Rattle.std.specs.Prelude.{◌≡◌, ℕ, ◌+◌, ◌<◌, ◌≤◌, List, length, All, slice_index_or}
use Rattle.pb_rows.specs.Index.{IsIndexOf}
use Rattle.pb_normal.specs.NormalForm.{PositiveRow, NormalForm}
use Rattle.pb_rows.specs.declared.rows.Limits.{Limits}
use Rattle.pb_rows.specs.Occurrences.{Occurrence}
use Rattle.pb_rows.specs.Costs.{AreCosts}
use Rattle.pb_rows.specs.Constraints.{AreRowsOver, HaveRisingVariables, row_at}

-- the degree of the row, and at least what it and any coefficient of the row add up to
pub record AreLimits {C : Type 0} (row : PositiveRow) (limits : Limits C) : Type 0 where
  pub degree : limits.degree ≡ row.degree
  pub least : row.degree ≤ limits.enough
  pub each : All (λ t. row.degree + t.coef ≤ limits.enough) row.terms

-- the limits of each of the first n rows
pub record AreLimitsOf {C : Type 0} (rows : List PositiveRow) (n : ℕ) (limits : List (Limits C)) : Type 0 where
  pub count : length limits ≡ n
  pub each : (r : ℕ) (d : Limits C) → r < n → AreLimits (row_at rows r) (slice_index_or limits r d)

-- a normal form, and the occurrences of the literals in its rows with where each literal's begin
pub record FormRows : Type 0 where
  pub form : NormalForm
  pub occurrences : List Occurrence
  pub starts : List ℕ

pub record AreFormRows {C : Type 0} (form : NormalForm) (limits : List (Limits C)) (occurrences : List Occurrence) (starts costs : List ℕ) : Type 0 where
  pub limited : AreLimitsOf form.rows (length form.rows) limits
  pub index : IsIndexOf form.vars 0 form.rows occurrences starts
  pub costs_are : AreCosts form.vars form.objective costs

-- the clauses of cubes, numbered from `first` on, and the occurrences of their literals with where each literal's begin
pub record ClauseRows : Type 0 where
  pub vars : ℕ
  pub first : ℕ
  pub rows : List PositiveRow
  pub occurrences : List Occurrence
  pub starts : List ℕ

pub record AreClauseRows (vars first : ℕ) (rows : List PositiveRow) (occurrences : List Occurrence) (starts : List ℕ) : Type 0 where
  pub over : AreRowsOver vars rows
  pub rising : HaveRisingVariables rows
  pub index : IsIndexOf vars first rows occurrences starts
