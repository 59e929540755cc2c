-- Where the assumptions of an engine begin, and which rows are known to be settled.
use Rattle.std.specs.Prelude.{◌≡◌, ℕ, ◌^◌, ◌<◌, ◌≤◌, Bool, true, false, List, length, map, take, Option, slice_index_or}
use Rattle.std.specs.Option.{ForSome}
use Rattle.pb_inst.specs.Literal.{Literal}
use Rattle.pb_normal.specs.NormalForm.{PositiveRow}
use Rattle.pb_trail.specs.declared.propagator.Level.{Level}
use Rattle.pb_rows.specs.Constraints.{Constraints, row_at}
use Rattle.pb_trail.specs.Completion.{IsSettled, HasNoCompletion}
use Rattle.pb_trail.specs.Propagation.{IsSettledFrom}
use Rattle.pb_trail.specs.Soundness.{IsJustified, IsProperTrail}
use Rattle.pb_trail.specs.Tracked.{TrailState, IsUpToDate}

unfoldable pub starts_of : List Level → List ℕ
starts_of levels = map (λ l. l.start) levels

-- every row is settled
abbrev pub AllSettled : List PositiveRow → List Literal → Type 0
AllSettled rows trail = (r : ℕ) → r < length rows → IsSettled trail (row_at rows r)

-- every row is settled but for the literals from `from` on
abbrev pub AllSettledFrom : List PositiveRow → List Literal → ℕ → Type 0
AllSettledFrom rows trail from = (from ≤ length trail) × ((r : ℕ) → r < length rows → IsSettledFrom from trail (row_at rows r))

-- levels begin at rising places of the trail, and a level marked so began with every row settled
pub record AreLevels (rows : List PositiveRow) (trail : List Literal) (levels : List Level) : Type 0 where
  pub within : (k : ℕ) (d : Level) → k < length levels → (k ≤ (slice_index_or levels k d).start) × ((slice_index_or levels k d).start < length trail)
  pub rising : (j k : ℕ) (d : Level) → j < k → k < length levels → (slice_index_or levels j d).start < (slice_index_or levels k d).start
  pub settled : (k : ℕ) (d : Level) → k < length levels → (slice_index_or levels k d).settled ≡ true → AllSettled rows (take (slice_index_or levels k d).start trail)

-- the levels are in order, the trail is proper and justified by them, a conflict leaves no completion, and while none stands it is known from where on rows may be unsettled, if at all
pub record IsEngine (vars : ℕ) (rows : List PositiveRow) (trail : List Literal) (levels : List Level) (propagated : Option ℕ) (conflict : Bool) (capacity : ℕ) : Type 0 where
  pub levels_in_order : AreLevels rows trail levels
  pub proper : IsProperTrail vars trail
  pub justified : IsJustified rows trail (starts_of levels)
  pub stands : conflict ≡ true → HasNoCompletion rows trail
  pub checked : conflict ≡ false → ForSome propagated (λ from. AllSettledFrom rows trail from)
  pub count : length levels ≤ vars
  pub small : vars < 2 ^ 32
  pub room : vars ≤ capacity

-- the trail is up to date with the tables, and it and the levels are those of an engine
pub record IsPropagator (c : Constraints) (t : TrailState) (levels : List Level) (propagated : Option ℕ) (conflict : Bool) (capacity : ℕ) : Type 0 where
  pub up_to_date : IsUpToDate c t
  pub engine : IsEngine c.vars c.rows t.lits levels propagated conflict capacity
