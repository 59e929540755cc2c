-- A state of a search that was made over a form.
use Rattle.std.specs.Prelude.{◌≡◌, ◌≤◌, ◌++◌, List, length, vec_capacity}
use Rattle.pb_inst.specs.Literal.{Literal}
use Rattle.pb_normal.specs.NormalForm.{NormalForm, PositiveRow}
use Rattle.pb_engine.specs.Clauses.{AreClausesOf}
use Rattle.pb_engine.specs.EngineState.{EngineState}
use Rattle.pb_subtree.specs.declared.search_state.SearchState.{SearchState}

-- the rows are those of the form and the clauses of the cubes
abbrev pub HasRowsOf : NormalForm → List (List Literal) → EngineState → Type 0
HasRowsOf f cubes s = (clauses : List PositiveRow) × (s.rows ≡ f.rows ++ clauses) × AreClausesOf cubes clauses

-- the state was made over the form, to make the cubes false
pub record IsMade {C : Type 0} (f : NormalForm) (cubes : List (List Literal)) (t : SearchState C) : Type 0 where
  pub form : t.engine.form ≡ f
  pub vars : t.engine.vars ≡ f.vars
  pub rows : HasRowsOf f cubes t.engine
  pub candidate : length t.candidate ≡ f.vars
  pub room : f.vars ≤ vec_capacity t.branches
