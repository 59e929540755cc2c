-- Multipliers for the rows of a normal form, and what they say of a trail's completions.
use Rattle.std.specs.Prelude.{◌≡◌, ℕ, ◌+◌, ◌-◌, ◌*◌, ◌/◌, ◌<◌, ◌≤◌, Bool, List, [], ◌∷◌, ◌++◌, take, Option, None, All, length, min, nat_lt, slice_index, slice_set, ℤ, pos, ◌+ℤ◌, ◌≤ℤ◌, int_lt, unsigned_abs, if◌then◌else◌}
use Rattle.std.specs.Int.{div_ceil}
use Rattle.pb_inst.specs.declared.limits.TheConstants.{MAX_VARS}
use Rattle.pb_inst.specs.Literal.{Literal}
use Rattle.pb_inst.specs.Meaning.{literal_value}
use Rattle.pb_normal.specs.NormalForm.{NormalForm, normal_cost, total_coefficient}
use Rattle.pb_rows.specs.Constraints.{row_at}
use Rattle.pb_trail.specs.Trail.{value_on}
use Rattle.pb_trail.specs.Completion.{IsCompletion}
use Rattle.pb_trail.specs.Tracked.{AreValues}
use Rattle.pb_dual.specs.Changes.{Change}
use Rattle.pb_dual.specs.ReducedCosts.{promised, reduced_cost, AreReducedCosts, part_on, parts_on, parts}

-- a normal form, the same with its rows as they are counted, the number that stands for a reduced cost of 0, by how much costs are scaled up, the most that a multiplier times its row's degree
-- may be, a multiplier for each row, a trail over the variables, on how many literals of it the counting stands, the changes of multipliers that can be taken back, the earliest
-- first, and how many of them there may be
pub record MultipliersState : Type 0 where
  pub form : NormalForm
  pub counted : NormalForm
  pub origin : ℕ
  pub scale : ℕ
  pub share : ℕ
  pub multipliers : List ℕ
  pub trail : List Literal
  pub root : ℕ
  pub changes : List Change
  pub room : ℕ

-- the state with another multiplier for the row, which can be taken back
abbrev pub changed : MultipliersState → ℕ → ℕ → MultipliersState
changed s row y = record s { multipliers = slice_set s.multipliers row y; changes = s.changes ++ (record { row = row; before = slice_index s.multipliers row }) ∷ [] }

-- a row's multiplier shifted by the amount, not below 0, and not above the row's share
abbrev pub shifted : MultipliersState → ℕ → ℤ → ℕ
shifted s row amount =
    if int_lt amount (pos 0) then slice_index s.multipliers row - unsigned_abs amount
    else min (slice_index s.multipliers row + unsigned_abs amount) (s.share / (row_at s.form.rows row).degree)

-- the multipliers before these changes
abbrev pub undone : List Change → List ℕ → List ℕ
undone [] ys = ys
undone (change ∷ changes) ys = slice_set (undone changes ys) change.row change.before

-- the state where rows are counted as they are
abbrev pub released : MultipliersState → MultipliersState
released s = record s { counted = s.form; root = 0 }

-- the state with `length` literals left on the trail: rows are counted as they are once fewer are left than the counting stands on
abbrev pub cut_to : ℕ → MultipliersState → MultipliersState
cut_to length s = if nat_lt length s.root then record (released s) { trail = take length s.trail } else record s { trail = take length s.trail }

-- the same but for how rows are counted
pub record IsSameButCounted (old new : MultipliersState) : Type 0 where
  pub form_is : new.form ≡ old.form
  pub multipliers_are : new.multipliers ≡ old.multipliers
  pub trail_is : new.trail ≡ old.trail
  pub changes_are : new.changes ≡ old.changes
  pub room_is : new.room ≡ old.room

-- the base, and what the degrees and the variables promise above it, scaled down and rounded up; not over the sum of all costs
abbrev pub bound_from : MultipliersState → ℕ → ℤ
bound_from s parts =
    s.form.base +ℤ pos (min (total_coefficient s.form.objective) (div_ceil ((promised s.multipliers s.counted.rows + parts) - s.form.vars * s.origin) s.scale))

abbrev pub dual_bound : MultipliersState → ℤ
dual_bound s = bound_from s (parts_on s.origin s.scale s.counted s.multipliers s.trail)

-- what is promised above the base, times the scale, and whether it is more than all costs together
abbrev pub promised_above : MultipliersState → ℕ
promised_above s = (promised s.multipliers s.counted.rows + parts_on s.origin s.scale s.counted s.multipliers s.trail) - s.form.vars * s.origin

abbrev pub is_over_all_costs : MultipliersState → Bool
is_over_all_costs s = nat_lt (s.scale * total_coefficient s.form.objective) (promised_above s)

-- what the literal adds to that by joining the trail, times the scale
abbrev pub penalty : MultipliersState → Literal → ℕ
penalty s l = reduced_cost s.origin s.scale s.counted s.multipliers l - part_on s.origin s.scale s.counted s.multipliers s.trail l.var

-- at most the cost of every completion of the trail
abbrev pub IsBelowCosts : NormalForm → List Literal → ℤ → Type 0
IsBelowCosts form trail bound = (a : List Bool) → IsCompletion form.rows trail a → bound ≤ℤ normal_cost form a

-- at most the cost of every completion of the trail that makes the literal true
abbrev pub IsBelowCostsWith : NormalForm → List Literal → Literal → ℤ → Type 0
IsBelowCostsWith form trail l bound = (a : List Bool) → IsCompletion form.rows trail a → literal_value a l ≡ 1 → bound ≤ℤ normal_cost form a

-- the literal has no value, and every completion of the trail that costs no more than the limit makes it true
pub record IsFixed (form : NormalForm) (trail : List Literal) (limit : ℤ) (l : Literal) : Type 0 where
  pub variable : l.var ≤ form.vars
  pub no_value : value_on trail l.var ≡ None
  pub forced : (a : List Bool) → IsCompletion form.rows trail a → normal_cost form a ≤ℤ limit → literal_value a l ≡ 1

-- the multiplier times the row's degree is not over the share of a row
abbrev pub IsWithinShare : NormalForm → ℕ → ℕ → ℕ → Type 0
IsWithinShare form share row y = y * (row_at form.rows row).degree ≤ share

-- what is kept beside the multipliers is what they and the trail make of the form as its rows are counted; shares are those of the whole rows
pub record AreKept (form whole : NormalForm) (ys : List ℕ) (lits : List Literal) (changes : List Change) (origin scale total share : ℕ) (costs : List ℕ) (values : List (Option Bool)) (degrees sum capacity : ℕ) : Type 0 where
  pub scale_from_one : 1 ≤ scale
  pub total_is : total ≡ total_coefficient form.objective
  pub scaled : scale * total < 2 * origin
  pub shared : share * length form.rows ≤ origin
  pub few : form.vars ≤ MAX_VARS
  pub count : length ys ≡ length form.rows
  pub one_each : length ys ≡ length whole.rows
  pub no_greater : (r : ℕ) → r < length form.rows → (row_at form.rows r).degree ≤ (row_at whole.rows r).degree
  pub each_within : (r : ℕ) → r < length form.rows → IsWithinShare whole share r (slice_index ys r)
  pub degrees_are : degrees ≡ promised ys form.rows
  pub costs_are : AreReducedCosts origin scale form ys costs
  pub vars : length values ≡ form.vars
  pub values_are : AreValues values lits capacity
  pub sum_is : sum ≡ parts costs values
  pub changes_within : All (λ change. (change.row < length form.rows) × IsWithinShare whole share change.row change.before) changes
