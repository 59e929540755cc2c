-- Assignments that meet the constraints of an engine.
use Rattle.std.specs.Prelude.{◌≡◌, Bool, List, length}
use Rattle.pb_inst.specs.Literal.{Literal}
use Rattle.pb_inst.specs.Cubes.{MakesTrue}
use Rattle.pb_normal.specs.NormalForm.{MeetsRows}
use Rattle.pb_engine.specs.EngineState.{EngineState}

-- the variables, the objective and the rows are the same
pub record SameConstraints (old new : EngineState) : Type 0 where
  pub form : new.form ≡ old.form
  pub vars : new.vars ≡ old.vars
  pub rows : new.rows ≡ old.rows

-- the assignment is one to the engine's variables and meets its rows
pub record Satisfies (s : EngineState) (a : List Bool) : Type 0 where
  pub for_all_variables : length a ≡ s.vars
  pub meets_rows : MeetsRows a s.rows

-- and makes the literals true
pub record SatisfiesUnder (s : EngineState) (assumed : List Literal) (a : List Bool) : Type 0 where
  pub solution : Satisfies s a
  pub makes_true : MakesTrue a assumed

-- and makes the trail true
abbrev pub Completes : EngineState → List Bool → Type 0
Completes s a = SatisfiesUnder s s.trail a
