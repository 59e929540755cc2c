-- What always holds of an engine's trail, and what follows from its assumptions.
use Rattle.std.specs.Prelude.{◌≢◌, ℕ, ◌<◌, ◌≤◌, Bool, true, List, length, map, take, All, Contains, slice_index_or, ◌⊎◌, None}
use Rattle.pb_inst.specs.Literal.{Literal}
use Rattle.pb_inst.specs.Cubes.{MakesTrue}
use Rattle.pb_normal.specs.NormalForm.{PositiveRow, MeetsRows}
use Rattle.pb_trail.specs.Trail.{value_on}
use Rattle.pb_trail.specs.Completion.{IsForced}
use Rattle.pb_trail.specs.Tracked.{IsConsistent}
use Rattle.pb_trail.specs.EngineState.{EngineState}

-- the literal at a place of the trail
abbrev pub literal_at : List Literal → ℕ → Literal
literal_at trail place = slice_index_or trail place (record { var = 1; positive = true })

-- the assumed literals, the earliest first
abbrev pub assumptions : EngineState → List Literal
assumptions e = map (λ place. literal_at e.trail place) e.levels

-- each literal of the trail stands at one of the places, or is forced by those before it
abbrev pub IsJustified : List PositiveRow → List Literal → List ℕ → Type 0
IsJustified rows trail places = (k : ℕ) (d : Literal) → k < length trail → Contains places k ⊎ IsForced rows (take k trail) (slice_index_or trail k d)

-- the literals are of the variables 1 to `vars`, and no variable comes twice
pub record IsProperTrail (vars : ℕ) (trail : List Literal) : Type 0 where
  pub variables : All (λ l. (1 ≤ l.var) × (l.var ≤ vars)) trail
  pub once : IsConsistent trail
  pub room : length trail ≤ vars

-- the places rise, and each is one of the trail
pub record ArePlaces (trail : List Literal) (places : List ℕ) : Type 0 where
  pub within : (k d : ℕ) → k < length places → slice_index_or places k d < length trail
  pub rising : (j k d : ℕ) → j < k → k < length places → slice_index_or places j d < slice_index_or places k d

-- whoever meets the rows and makes the assumptions true makes the whole trail true, and the trail is proper
pub record IsSoundTrail (e : EngineState) : Type 0 where
  pub places : ArePlaces e.trail e.levels
  pub forced : (a : List Bool) → MeetsRows a e.rows → MakesTrue a (assumptions e) → MakesTrue a e.trail
  pub proper : IsProperTrail e.vars e.trail

-- each variable has a value
abbrev pub IsFull : EngineState → Type 0
IsFull e = (var : ℕ) → 1 ≤ var → var ≤ e.vars → value_on e.trail var ≢ None

-- whoever makes the whole trail true meets the rows
abbrev pub IsSolved : EngineState → Type 0
IsSolved e = (a : List Bool) → MakesTrue a e.trail → MeetsRows a e.rows
