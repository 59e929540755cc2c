-- An engine as its callers see it.
use Rattle.std.specs.Prelude.{ℕ, ◌<◌, Bool, true, false, List, length, take, slice_index_or, pos, ◌<ℤ◌}
use Rattle.pb_inst.specs.Literal.{Literal}
use Rattle.pb_normal.specs.NormalForm.{PositiveRow, NormalForm}
use Rattle.pb_trail.specs.declared.propagation.Step.{Step}
use Rattle.pb_trail.specs.declared.propagation.Step.TheVariants.{Fixed, Conflict}
use Rattle.pb_rows.specs.Constraints.{row_at}
use Rattle.pb_trail.specs.Trail.{slack}

-- a normal form, rows over the variables 1 to `vars` (those of the form and the clauses after them), a trail, the places of its assumed literals, and whether a conflict stands
pub record EngineState : Type 0 where
  pub form : NormalForm
  pub vars : ℕ
  pub rows : List PositiveRow
  pub trail : List Literal
  pub levels : List ℕ
  pub conflict : Bool

-- the trail before assumption `level + 1`, and all of it where there is none
abbrev pub trail_before : EngineState → ℕ → List Literal
trail_before e level = take (slice_index_or e.levels level (length e.trail)) e.trail

-- whether the step found a conflict
abbrev pub is_conflict : Step → Bool
is_conflict Conflict = true
is_conflict Fixed = false

-- the slack of some row is negative
abbrev pub HasNegativeSlack : List PositiveRow → List Literal → Type 0
HasNegativeSlack rows trail = (r : ℕ) × (r < length rows) × (slack trail (row_at rows r) <ℤ pos 0)
