-- Laws of the clauses of cubes that are to be false.
use Rattle.std.specs.Prelude.{◌≡◌, Bool, List, All, ◌↔◌}
use Rattle.pb_inst.specs.Literal.{Literal}
use Rattle.pb_inst.specs.Cubes.{MakesFalse}
use Rattle.pb_normal.specs.NormalForm.{PositiveRow, MeetsRows}
use Rattle.pb_rows.specs.Clauses.{AreClausesOf}

-- an assignment meets the clauses exactly where it makes each of the cubes false
abbrev pub ClausesSayCubesAreFalse : Type 0
ClausesSayCubesAreFalse = (a : List Bool) (cubes : List (List Literal)) (rows : List PositiveRow) → AreClausesOf cubes rows → MeetsRows a rows ↔ All (λ cube. MakesFalse a cube) cubes

-- cubes have one list of clauses
abbrev pub ClausesAreUnique : Type 0
ClausesAreUnique = (cubes : List (List Literal)) (rows others : List PositiveRow) → AreClausesOf cubes rows → AreClausesOf cubes others → rows ≡ others
