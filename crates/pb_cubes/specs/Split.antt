-- The split: 2^k cubes over the k variables of most occurrences.
use Rattle.std.specs.Prelude.{◌≡◌, ℕ, ◌^◌, List, [], ◌∷◌, length, map, ◌==◌}
use Rattle.std.specs.Int.{bit_at}
use Rattle.std.specs.List.{range_with_len}
use Rattle.pb_inst.specs.Literal.{Literal}
use Rattle.pb_inst.specs.Problem.{Problem}
use Rattle.pb_cubes.specs.Occurrences.{AreMostOccurring}

-- cube m over the variables, in their order: a variable with j variables after it is positive where the binary digit of m
-- of weight 2^j is 1, else negative
abbrev pub numbered_cube : List ℕ → ℕ → List Literal
numbered_cube [] m = []
numbered_cube (v ∷ vars) m = record { var = v; positive = bit_at m (length vars) == 1 } ∷ numbered_cube vars m

-- the cubes of the numbers from 0 to 2^k - 1, in order, over k variables
abbrev pub split_cubes : List ℕ → List (List Literal)
split_cubes vars = map (numbered_cube vars) (range_with_len 0 (2 ^ length vars))

-- the cubes are those of a split over the k variables of most occurrences
pub record IsSplit (p : Problem) (k : ℕ) (cubes : List (List Literal)) : Type 0 where
  pub vars : List ℕ
  pub most : AreMostOccurring p k vars
  pub numbered : cubes ≡ split_cubes vars
