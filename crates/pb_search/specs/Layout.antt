-- How a search is laid out: one state for the cubes, where there are any, and one for the remainder, which makes each cube
-- false.
use Rattle.std.specs.Prelude.{◌≡◌, ◌≤◌, Bool, List, [], All, ◌↔◌, Option, IfNone, IfSome}
use Rattle.pb_inst.specs.Literal.{Literal}
use Rattle.pb_inst.specs.Problem.{Problem}
use Rattle.pb_inst.specs.Meaning.{IsFeasible}
use Rattle.pb_inst.specs.Cubes.{MakesFalse}
use Rattle.pb_inst.specs.declared.limits.TheConstants.{MAX_VARS}
use Rattle.pb_normal.specs.NormalForm.{MeetsRows, KeepsFeasible, KeepsCost}
use Rattle.pb_engine.specs.Clauses.{AreClausesOf}
use Rattle.pb_engine.specs.Table.{FormRows, ClauseRows}
use Rattle.pb_engine.specs.Tables.{AreBeside}
use Rattle.pb_cubes.specs.Pieces.{CubeList}
use Rattle.pb_subtree.specs.declared.search_state.SearchState.{SearchState}
use Rattle.pb_subtree.specs.SearchState.{IsStateOf}

-- the state is one for cubes: every feasible assignment meets its rows
pub record IsCubeState {C : Type 0} (p : Problem) (t : SearchState C) : Type 0 where
  pub state : IsStateOf p t
  pub rows : (a : List Bool) → IsFeasible p a → MeetsRows a t.engine.rows

pub record IsLaidOut {C : Type 0} (p : Problem) (pieces : CubeList) (cube : Option (SearchState C)) (rest : SearchState C) : Type 0 where
  pub vars : pieces.vars ≡ p.vars
  pub no_cubes : IfNone cube (pieces.cubes ≡ [])
  pub cube_state : IfSome cube (IsCubeState p)
  pub rest_state : IsStateOf p rest
  pub rest_rows : (a : List Bool) → MeetsRows a rest.engine.rows ↔ (IsFeasible p a × All (λ cube. MakesFalse a cube) pieces.cubes)

-- the cubes over the instance's variables
abbrev pub pieces_of : Problem → List (List Literal) → CubeList
pieces_of p cubes = record { vars = p.vars; cubes = cubes }

-- the rows are those of a normal form of the instance; one table of clauses is of no cubes, the other of all
pub record AreTables (p : Problem) (pieces : CubeList) (rows : FormRows) (none rest : ClauseRows) : Type 0 where
  pub vars : rows.form.vars ≡ p.vars
  pub few_variables : p.vars ≤ MAX_VARS
  pub feasible : KeepsFeasible p rows.form
  pub costs : KeepsCost p rows.form
  pub piece_vars : pieces.vars ≡ p.vars
  pub none_beside : AreBeside rows none
  pub rest_beside : AreBeside rows rest
  pub no_cubes : AreClausesOf [] none.rows
  pub all_cubes : AreClausesOf pieces.cubes rest.rows
