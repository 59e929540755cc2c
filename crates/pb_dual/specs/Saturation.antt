-- Rows that are counted as a trail leaves them: no coefficient counts more than what is left of its row's degree.
use Rattle.std.specs.Prelude.{◌≡◌, ℕ, ◌+◌, ◌-◌, ◌<◌, ◌≤◌, Bool, List, [], ◌∷◌, length, map, take, min, slice_index_or}
use Rattle.pb_inst.specs.Literal.{Literal}
use Rattle.pb_normal.specs.declared.terms.PositiveTerm.{PositiveTerm}
use Rattle.pb_normal.specs.NormalForm.{PositiveRow, NormalForm, MeetsRows}
use Rattle.pb_rows.specs.Constraints.{row_at}
use Rattle.pb_trail.specs.Trail.{reached}
use Rattle.pb_trail.specs.Completion.{IsCompletion}

-- no coefficient of a row counts more than `most`, and its degree counts as this
pub record Saturation : Type 0 where
  pub most : ℕ
  pub degree : ℕ

abbrev pub capped_term : ℕ → PositiveTerm → PositiveTerm
capped_term most t = record t { coef = min t.coef most }

abbrev pub capped : ℕ → List PositiveTerm → List PositiveTerm
capped most terms = map (capped_term most) terms

-- the row as it is counted
abbrev pub counted_row : Saturation → PositiveRow → PositiveRow
counted_row s row = record { terms = capped s.most row.terms; degree = s.degree }

abbrev pub counted_rows : List Saturation → List PositiveRow → List PositiveRow
counted_rows [] rows = []
counted_rows (s ∷ ss) [] = []
counted_rows (s ∷ ss) (row ∷ rows) = counted_row s row ∷ counted_rows ss rows

-- the form with its rows as they are counted
abbrev pub counted_form : List Saturation → NormalForm → NormalForm
counted_form ss form = record form { rows = counted_rows ss form.rows }

-- the saturation of a row
abbrev pub saturation_at : List Saturation → ℕ → Saturation
saturation_at ss r = slice_index_or ss r (record { most = 0; degree = 0 })

-- what is left of the row's degree under the trail
abbrev pub left_of : List Literal → PositiveRow → ℕ
left_of trail row = row.degree - reached trail row.terms

-- no coefficient counts more than that, and the literals on the trail are asked for beside it
abbrev pub saturation_of : List Literal → PositiveRow → Saturation
saturation_of trail row = record { most = left_of trail row; degree = left_of trail row + reached trail (capped (left_of trail row) row.terms) }

-- each coefficient counts something, none more than the degree, and the degree no more than it is
pub record IsWithinRow (row : PositiveRow) (s : Saturation) : Type 0 where
  pub some : 1 ≤ s.most
  pub clipped : s.most ≤ s.degree
  pub less : s.degree ≤ row.degree

-- there is one for each row, within it, and the assignments that complete the beginning of the trail meet the rows as they are counted
pub record AreSaturations (form : NormalForm) (ss : List Saturation) (root : ℕ) (trail : List Literal) : Type 0 where
  pub count : length ss ≡ length form.rows
  pub within : (r : ℕ) → r < length form.rows → IsWithinRow (row_at form.rows r) (saturation_at ss r)
  pub on_trail : root ≤ length trail
  pub met : (a : List Bool) → IsCompletion form.rows (take root trail) a → MeetsRows a (counted_rows ss form.rows)

-- the row is counted as it is
abbrev pub whole : PositiveRow → Saturation
whole row = record { most = row.degree; degree = row.degree }

abbrev pub AreWhole : List PositiveRow → List Saturation → Type 0
AreWhole rows ss = ss ≡ map whole rows
