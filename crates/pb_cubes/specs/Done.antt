-- What a search shows of a piece.
use Rattle.std.specs.Prelude.{◌≡◌, ℕ, Bool, List, length, Option, None, Some}
use Rattle.pb_inst.specs.Literal.{Literal}
use Rattle.pb_inst.specs.Problem.{Problem}
use Rattle.pb_inst.specs.Meaning.{IsFeasible}
use Rattle.pb_inst.specs.Order.{IsBefore}
use Rattle.pb_inst.specs.Incumbent.{Solution, IsSolution}
use Rattle.pb_cubes.specs.Pieces.{LiesIn}

-- an instance, and the cubes that divide it into pieces
pub record Division : Type 0 where
  pub problem : Problem
  pub cubes : List (List Literal)

-- the assignment is one to the instance's variables, is feasible, and lies in piece i
pub record IsCandidate (d : Division) (i : ℕ) (a : List Bool) : Type 0 where
  pub for_all_variables : length a ≡ d.problem.vars
  pub feasible : IsFeasible d.problem a
  pub in_piece : LiesIn d.cubes i a

-- nothing is held and no assignment of the piece is feasible, or what is held is a solution and no feasible assignment of the piece is before it
abbrev pub IsDone : Division → ℕ → Option Solution → Type 0
IsDone d i None = (a : List Bool) → ¬ IsCandidate d i a
IsDone d i (Some s) = IsSolution d.problem s × ((a : List Bool) → IsCandidate d i a → ¬ IsBefore d.problem a s.assignment)
