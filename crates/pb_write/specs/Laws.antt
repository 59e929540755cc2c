-- What the instance of a piece means, and an instance as it is written.
use Rattle.std.specs.Prelude.{◌≡◌, ◌↔◌, ℕ, ◌≤◌, All, Bool, List, length}
use Rattle.pb_inst.specs.declared.constraints.Relation.TheVariants.{AtMost}
use Rattle.pb_inst.specs.Literal.{Literal}
use Rattle.pb_inst.specs.Meaning.{IsFeasible, cost}
use Rattle.pb_inst.specs.Problem.{Problem}
use Rattle.pb_cubes.specs.Pieces.{LiesIn}
use Rattle.pb_write.specs.Pieces.{piece_problem}
use Rattle.pb_write.specs.Turned.{written_problem}

-- ---- a piece

-- the assignments that it allows are those that the whole instance allows and that lie in the piece
abbrev pub FeasibleInPiece : Type 0
FeasibleInPiece = (p : Problem) (cubes : List (List Literal)) (i : ℕ) (a : List Bool) → i ≤ length cubes → IsFeasible (piece_problem p cubes i) a ↔ (IsFeasible p a × LiesIn cubes i a)

-- each assignment costs what it costs in the whole instance
abbrev pub CostInPiece : Type 0
CostInPiece = (p : Problem) (cubes : List (List Literal)) (i : ℕ) (a : List Bool) → cost (piece_problem p cubes i) a ≡ cost p a

-- both have the same variables
abbrev pub VariablesInPiece : Type 0
VariablesInPiece = (p : Problem) (cubes : List (List Literal)) (i : ℕ) → (piece_problem p cubes i).vars ≡ p.vars

-- ---- what is written

-- no constraint has `<=`
abbrev pub NeverAtMost : Type 0
NeverAtMost = (p : Problem) → All (λ c. ¬ (c.relation ≡ AtMost)) (written_problem p).constraints

-- it allows the assignments that the instance allows
abbrev pub FeasibleAsWritten : Type 0
FeasibleAsWritten = (p : Problem) (a : List Bool) → IsFeasible (written_problem p) a ↔ IsFeasible p a

-- each assignment costs what it costs in the instance
abbrev pub CostAsWritten : Type 0
CostAsWritten = (p : Problem) (a : List Bool) → cost (written_problem p) a ≡ cost p a

-- both have the same variables
abbrev pub VariablesAsWritten : Type 0
VariablesAsWritten = (p : Problem) → (written_problem p).vars ≡ p.vars
