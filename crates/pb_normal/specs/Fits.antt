-- Whether the sums of a normal form are small enough for the numbers in which an engine counts.
use Rattle.std.specs.Prelude.{ℕ, ◌<◌, All}
use Rattle.pb_normal.specs.NormalForm.{PositiveRow, NormalForm, IsNormal, total_coefficient}

-- the degree of the row and the sum of its coefficients are below the limit
abbrev pub HasSumsBelow : ℕ → PositiveRow → Type 0
HasSumsBelow limit row = (row.degree < limit) × (total_coefficient row.terms < limit)

-- the sums of all rows and of the objective are
pub record Fits (limit : ℕ) (form : NormalForm) : Type 0 where
  pub rows : All (λ row. HasSumsBelow limit row) form.rows
  pub objective : total_coefficient form.objective < limit

-- the form is normal, and so small
pub record IsNormalWithin (limit : ℕ) (form : NormalForm) : Type 0 where
  pub normal : IsNormal form
  pub fits : Fits limit form
