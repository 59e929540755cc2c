-- The cubes that divide the work of a run.
use Rattle.std.specs.Prelude.{◌≡◌, ℕ, ◌≤◌, ◌⊎◌, List, [], ◌++◌, Option}
use Rattle.pb_inst.specs.Literal.{Literal}
use Rattle.pb_inst.specs.Problem.{Problem}
use Rattle.pb_cubes.specs.Split.{IsSplit}
use Rattle.pb_solve.specs.Outcome.{FileSpells, IsDivisionAccepted}

-- the cubes of a split of `split` variables: a split of 0 makes none
abbrev pub AreOfSplit : Problem → ℕ → List (List Literal) → Type 0
AreOfSplit p split cubes = ((split ≡ 0) × (cubes ≡ [])) ⊎ ((1 ≤ split) × IsSplit p split cubes)

-- the cubes are the input's own, those of the cube file and those of the split, joined in this order
pub record AreJoined (p : Problem) (input_cubes : List (List Literal)) (cube_text : Option (List ℕ)) (split : ℕ) (cubes : List (List Literal)) : Type 0 where
  pub file_cubes : List (List Literal)
  pub file : FileSpells p.vars cube_text file_cubes
  pub split_cubes : List (List Literal)
  pub of_split : AreOfSplit p split split_cubes
  pub joined : cubes ≡ (input_cubes ++ file_cubes) ++ split_cubes

-- nothing of the cubes and the split is refused, and these are all cubes together
abbrev pub IsDivided : Problem → List (List Literal) → Option (List ℕ) → ℕ → List (List Literal) → Type 0
IsDivided p input_cubes cube_text split cubes = IsDivisionAccepted p input_cubes cube_text split × AreJoined p input_cubes cube_text split cubes
