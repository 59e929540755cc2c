-- What a run has to report that was cut by its budget.
use Rattle.std.specs.Prelude.{◌≡◌, ℕ, true, List, Option}
use Rattle.pb_inst.specs.Literal.{Literal}
use Rattle.pb_inst.specs.Problem.{Problem}
use Rattle.pb_inst.specs.Incumbent.{Solution}
use Rattle.pb_cubes.specs.Pieces.{CubeList}
use Rattle.pb_read.specs.declared.format.Format.{Format}
use Rattle.pb_read.specs.Format.{Spells}
pub use Rattle.pb_report.specs.Found.{Found, Nothing, Feasible, Costing, IsFound, found_of, found_report, found_status}
use Rattle.pb_solve.specs.Division.{IsDivided}
use Rattle.pb_workers.specs.Parts.{PartView, IsAnswerOf}

-- This was found of the instance: parts of all its pieces, of which some names a piece as cut, answer it, and it is the first of
-- what they hold. So nothing was found only where no part holds anything.
abbrev pub IsFoundOf : Problem → CubeList → Found → Type 0
IsFoundOf p pieces found =
    (parts : List PartView) × (held : Option Solution) × IsAnswerOf p pieces parts held true × (found ≡ found_of p held) × IsFound p found

-- The input spells an instance, nothing of the cubes and the split is refused, and this was found of the instance and of the
-- pieces that they make.
abbrev pub IsFoundIn : Format → List ℕ → Option (List ℕ) → ℕ → Found → Type 0
IsFoundIn format text cube_text split found =
    (p : Problem) × (input_cubes : List (List Literal)) × (pieces : CubeList) × Spells format text p input_cubes × IsDivided p input_cubes cube_text split pieces.cubes × IsFoundOf p pieces found
