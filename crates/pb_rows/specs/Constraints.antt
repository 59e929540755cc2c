-- The rows over which an engine works.
use Rattle.std.specs.Prelude.{ℕ, ◌<◌, ◌≤◌, List, [], All, AllPairs, slice_index_or}
use Rattle.pb_rows.specs.Occurrences.{Occurrence}
use Rattle.pb_normal.specs.NormalForm.{PositiveRow, NormalForm}

-- rows over the variables 1 to `vars`, the first of them those of the normal form, and the occurrences of their literals with where each literal's begin:
-- first those with coefficients, then those whose coefficient is 1
pub record Constraints : Type 0 where
  pub form : NormalForm
  pub vars : ℕ
  pub rows : List PositiveRow
  pub occurrences : List Occurrence
  pub starts : List ℕ
  pub units : List Occurrence
  pub unit_starts : List ℕ

-- the row of a number
abbrev pub row_at : List PositiveRow → ℕ → PositiveRow
row_at rows r = slice_index_or rows r (record { terms = []; degree = 0 })

-- the terms of the rows are of the variables 1 to `vars`
abbrev pub AreRowsOver : ℕ → List PositiveRow → Type 0
AreRowsOver vars rows = All (λ row. All (λ t. (1 ≤ t.lit.var) × (t.lit.var ≤ vars)) row.terms) rows

-- in each row later terms are of greater variables, so none comes twice
abbrev pub HaveRisingVariables : List PositiveRow → Type 0
HaveRisingVariables rows = All (λ row. AllPairs (λ t u. t.lit.var < u.lit.var) row.terms) rows
