-- The rule of the board: what holds of its words and of what all seats know, between any two atomic steps.
-- A seat that is dropped leaves its view in the table, so `seats` lists the dropped seats too, and those that were joined into another.
use Rattle.std.specs.Prelude.{◌≡◌, ℕ, ◌≤◌, ◌-◌, ◌^◌, List, [], ◌∷◌, length, All, Contains, sum_by, flat_map}
use Rattle.atomic_table.specs.Table.{State}
use Rattle.pb_inst.specs.declared.limits.TheConstants.{MAX_WORKERS}
use Rattle.pb_board.specs.declared.view.View.{View}
use Rattle.pb_board.specs.Numbers.{IsEachOnceBelow, IsLeast}

-- the largest word, which the least word holds before any offer
abbrev pub top_key : ℕ
top_key = 2 ^ 64 - 1

-- the most claims that one seat may have
abbrev pub most_claims : ℕ
most_claims = 2 ^ 57

-- what is left of a seat that was joined into another
abbrev pub spent : View
spent = record { parts = 0; claimed = []; offered = []; seen = top_key }

-- a board's first seat
abbrev pub whole : ℕ → View
whole workers = record { parts = workers; claimed = []; offered = []; seen = top_key }

-- the parts of all seats together
abbrev pub all_parts : List View → ℕ
all_parts seats = sum_by (λ v. v.parts) seats

-- the numbers that the seats claimed
abbrev pub all_claimed : List View → List ℕ
all_claimed seats = flat_map (λ v. v.claimed) seats

-- the keys that the seats offered
abbrev pub all_offered : List View → List ℕ
all_offered seats = flat_map (λ v. v.offered) seats

-- a seat with no part is spent, and a seat has at most 2^57 claims
abbrev pub IsSeat : View → Type 0
IsSeat v = (v.parts ≡ 0 → v ≡ spent) × (length v.claimed ≤ most_claims)

-- The counter holds the number of claims, and the claimed numbers are those below it, each once
pub record ClaimRule (workers counter : ℕ) (seats : List View) : Type 0 where
  pub limit : workers ≤ MAX_WORKERS
  pub parts : all_parts seats ≡ workers
  pub each : All IsSeat seats
  pub count : counter ≡ length (all_claimed seats)
  pub numbers : IsEachOnceBelow counter (all_claimed seats)

-- what a seat has seen is at least the least word, at most each key of its own, and top or a key that some seat offered
abbrev pub SeesRightly : ℕ → List View → View → Type 0
SeesRightly least seats v = (least ≤ v.seen) × All (λ key. v.seen ≤ key) v.offered × Contains (top_key ∷ all_offered seats) v.seen

-- The least word is the least of top and of all keys that were offered
pub record OfferRule (least : ℕ) (seats : List View) : Type 0 where
  pub is_least : IsLeast least (top_key ∷ all_offered seats)
  pub each : All (SeesRightly least seats) seats

-- The words are the claim counter, the least word, and then the signal and the words of the rows, of which nothing is said
pub record BoardRule (workers : ℕ) {S : Type 0} (s : State S View) : Type 0 where
  pub counter : ℕ
  pub least : ℕ
  pub rows : List ℕ
  pub words : s.words ≡ counter ∷ least ∷ rows
  pub claims : ClaimRule workers counter s.views
  pub offers : OfferRule least s.views
