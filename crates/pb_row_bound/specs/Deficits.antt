-- What is kept beside a trail for the bound by disjoint rows.
use Rattle.std.specs.Prelude.{◌≡◌, ℕ, ◌+◌, ◌<◌, ◌≤◌, Bool, List, length, map, take, nat_lt, slice_index}
use Rattle.pb_inst.specs.Literal.{Literal}
use Rattle.pb_normal.specs.declared.terms.PositiveTerm.{PositiveTerm}
use Rattle.pb_normal.specs.NormalForm.{PositiveRow, NormalForm}
use Rattle.pb_row_bound.specs.declared.deficits.Deficits.{Deficits}
use Rattle.pb_rows.specs.Constraints.{row_at}
use Rattle.pb_row_bound.specs.DisjointRows.{spare}
use Rattle.pb_trail.specs.EngineState.{EngineState}
use Rattle.pb_trail.specs.Trail.{reached}

-- the degree less what the row has at no cost, which may be below 0, and the limit of the counters more
abbrev pub IsDeficitOf : ℕ → List PositiveTerm → List Literal → PositiveRow → ℕ → Type 0
IsDeficitOf limit objective trail row deficit = deficit + spare objective trail row.terms ≡ limit + row.degree

-- the rows that need costly literals: the open ones
unfoldable pub are_open : ℕ → List ℕ → List Bool
are_open limit deficits = map (λ deficit. nat_lt limit deficit) deficits

-- what the trail pays, the deficit of each row, and which rows are open
pub record AreCounters (limit : ℕ) (form : NormalForm) (rows : List PositiveRow) (trail : List Literal) (paid : ℕ) (deficits : List ℕ) (open_rows : List Bool) : Type 0 where
  pub paid_is : paid ≡ reached trail form.objective
  pub count : length deficits ≡ length rows
  pub each : (r : ℕ) → r < length rows → IsDeficitOf limit form.objective trail (row_at rows r) (slice_index deficits r)
  pub open_rows_are : open_rows ≡ are_open limit deficits

-- the first literals of the trail are counted
pub record AreDeficits {C : Type 0} (limit : ℕ) (form : NormalForm) (rows : List PositiveRow) (trail : List Literal) (deficits : Deficits C) : Type 0 where
  pub within : deficits.counted ≤ length trail
  pub counters : AreCounters limit form rows (take deficits.counted trail) deficits.paid deficits.by_row.items deficits.open_rows

-- the counters are those of the trail, and there is a mark for each variable
pub record HasCounters {C : Type 0} (limit : ℕ) (e : EngineState) (deficits : Deficits C) (marks : List Bool) : Type 0 where
  pub deficits_are : AreDeficits limit e.form e.rows e.trail deficits
  pub room : length marks ≡ e.vars
