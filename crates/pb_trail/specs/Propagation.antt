-- What propagation adds to a trail, and when it is done.
use Rattle.std.specs.Prelude.{◌≡◌, ℕ, ◌<◌, ◌≤◌, List, [], ◌∷◌, ◌++◌, length, None, slice_index_or}
use Rattle.pb_inst.specs.Literal.{Literal}
use Rattle.pb_normal.specs.NormalForm.{PositiveRow}
use Rattle.pb_normal.specs.Literals.{negation, weight_of}
use Rattle.pb_trail.specs.Trail.{value_on, reachable}
use Rattle.pb_rows.specs.Constraints.{row_at}
use Rattle.pb_trail.specs.Completion.{IsForced, IsSettled}

-- literals without a value join the trail at its end, each forced by all before it
pub data AddsForced (rows : List PositiveRow) (trail : List Literal) : List Literal → Type 0 where
  nothing : AddsForced rows trail trail
  one_more : (longer : List Literal) (l : Literal) → AddsForced rows trail longer → value_on longer l.var ≡ None → IsForced rows longer l → AddsForced rows trail (longer ++ l ∷ [])

-- no literal of the trail from `head` on makes a literal of the row false
abbrev pub IsUntouched : List Literal → ℕ → PositiveRow → Type 0
IsUntouched trail head row = (k : ℕ) (d : Literal) → head ≤ k → k < length trail → weight_of (negation (slice_index_or trail k d)) row.terms ≡ 0

-- the row is settled unless a literal from `head` on touches it
abbrev pub IsSettledFrom : ℕ → List Literal → PositiveRow → Type 0
IsSettledFrom head trail row = IsUntouched trail head row → IsSettled trail row

-- there is such a row, and it can't reach its degree: its slack is negative
abbrev pub IsBrokenAt : List PositiveRow → List Literal → ℕ → Type 0
IsBrokenAt rows trail r = (r < length rows) × (reachable trail (row_at rows r).terms < (row_at rows r).degree)

-- some row is broken
abbrev pub IsBroken : List PositiveRow → List Literal → Type 0
IsBroken rows trail = (r : ℕ) × IsBrokenAt rows trail r
