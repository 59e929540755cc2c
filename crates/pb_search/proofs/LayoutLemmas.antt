-- How a search is laid out when it is made.
use Rattle.std.proofs.Common.{◌≡◌, ℕ, ◌≤◌, List, [], ◌++◌, get_or, ap, sym, ◌∙◌, subst, Bool, All}
use Rattle.std.specs.Prelude.{◌↔◌, Option, IfNone, IfSome, vec_capacity}
use Rattle.std.proofs.lemmas.List.Elements.{All-nil, All-append, All-contains, All-contains_itself, Contains-append_left, Contains-append_right}
use Rattle.pb_inst.specs.Literal.{Literal}
use Rattle.pb_inst.specs.Problem.{Problem}
use Rattle.pb_inst.specs.Meaning.{IsFeasible}
use Rattle.pb_inst.specs.Cubes.{MakesFalse}
use Rattle.pb_inst.specs.declared.limits.TheConstants.{MAX_VARS}
use Rattle.pb_normal.specs.NormalForm.{NormalForm, PositiveRow, MeetsRow, MeetsRows, KeepsFeasible, KeepsCost}
use Rattle.pb_engine.specs.EngineState.{EngineState}
use Rattle.pb_engine.specs.Laws.{ClausesSayCubesAreFalse}
use Rattle.pb_cubes.specs.Pieces.{CubeList}
use Rattle.pb_subtree.specs.declared.search_state.SearchState.{SearchState}
use Rattle.pb_search.specs.Layout.{IsCubeState, IsLaidOut}
use Rattle.pb_subtree.specs.Made.{HasRowsOf, IsMade}
use Rattle.pb_subtree.specs.SearchState.{IsStateOf}
use Rattle.pb_subtree.specs.Solutions.{SameConstraints}

-- what holds of two lists together holds of each
all_left : (P : PositiveRow → Type 0) (xs ys : List PositiveRow) → All P (xs ++ ys) → All P xs
all_left P xs ys all k d h = All-contains P (xs ++ ys) (get_or xs k d) all (Contains-append_left xs ys (get_or xs k d) (All-contains_itself xs k d h))

all_right : (P : PositiveRow → Type 0) (xs ys : List PositiveRow) → All P (xs ++ ys) → All P ys
all_right P xs ys all k d h = All-contains P (xs ++ ys) (get_or ys k d) all (Contains-append_right xs ys (get_or ys k d) (All-contains_itself ys k d h))

-- so what meets them is feasible and makes each cube false
rows_mean : (p : Problem) (f : NormalForm) (cubes : List (List Literal)) (s : EngineState) → ClausesSayCubesAreFalse → KeepsFeasible p f → HasRowsOf f cubes s → (a : List Bool) → MeetsRows a s.rows ↔ (IsFeasible p a × All (λ cube. MakesFalse a cube) cubes)
rows_mean p f cubes s law feasible (clauses, rows, are) a = (
  (λ h. (let both = subst (λ (x : List PositiveRow). MeetsRows a x) rows h in ((feasible a).0 (all_left (MeetsRow a) f.rows clauses both), (law a cubes clauses are).0 (all_right (MeetsRow a) f.rows clauses both)))),
  (λ h. subst (λ (x : List PositiveRow). MeetsRows a x) (sym rows) (All-append (MeetsRow a) f.rows clauses ((feasible a).1 h.0) ((law a cubes clauses are).1 h.1))),
)

made_state : {C : Type 0} (p : Problem) (f : NormalForm) (cubes : List (List Literal)) (t : SearchState C) → ClausesSayCubesAreFalse → f.vars ≡ p.vars → KeepsFeasible p f → KeepsCost p f → p.vars ≤ MAX_VARS → IsMade f cubes t → IsStateOf p t
made_state p f cubes t law vars feasible costs few made = record {
  engine = record {
    vars = made.vars ∙ vars;
    feasible = λ a h. ((rows_mean p f cubes t.engine law feasible made.rows a).0 h).0;
    costs = subst (λ (x : NormalForm). KeepsCost p x) (sym made.form) costs;
  };
  few_variables = few;
  candidate = made.candidate ∙ vars;
  room = subst (λ (n : ℕ). n ≤ vec_capacity t.branches) vars made.room;
}

pub made_cube_state : {C : Type 0} (p : Problem) (f : NormalForm) (t : SearchState C) → ClausesSayCubesAreFalse → f.vars ≡ p.vars → KeepsFeasible p f → KeepsCost p f → p.vars ≤ MAX_VARS → IsMade f [] t → IsCubeState p t
made_cube_state p f t law vars feasible costs few made = record {
  state = made_state p f [] t law vars feasible costs few made;
  rows = λ a h. (rows_mean p f [] t.engine law feasible made.rows a).1 (h, All-nil (λ (c : List Literal). MakesFalse a c));
}

pub laid_out : {C : Type 0} (p : Problem) (f : NormalForm) (pieces : CubeList) (cube : Option (SearchState C)) (rest : SearchState C) → ClausesSayCubesAreFalse → f.vars ≡ p.vars → KeepsFeasible p f → KeepsCost p f → p.vars ≤ MAX_VARS → pieces.vars ≡ p.vars → IfNone cube (pieces.cubes ≡ []) → IfSome cube (IsCubeState p) → IsMade f pieces.cubes rest → IsLaidOut p pieces cube rest
laid_out p f pieces cube rest law vars feasible costs few same none some all = record {
  vars = same;
  no_cubes = none;
  cube_state = some;
  rest_state = made_state p f pieces.cubes rest law vars feasible costs few all;
  rest_rows = rows_mean p f pieces.cubes rest.engine law feasible all.rows;
}

-- a state that was made for a form stays so where it keeps its constraints and its room
pub still_made : {C : Type 0} (p : Problem) (f : NormalForm) (old new : SearchState C) → f.vars ≡ p.vars → IsMade f [] old → IsStateOf p new → SameConstraints old.engine new.engine → IsMade f [] new
still_made p f old new vars made is same = record {
  form = same.form ∙ made.form;
  vars = same.vars ∙ made.vars;
  rows = same_rows f [] old.engine new.engine same.rows made.rows;
  candidate = is.candidate ∙ sym vars;
  room = subst (λ (n : ℕ). n ≤ vec_capacity new.branches) (sym vars) is.room;
}
  where
    same_rows : (f : NormalForm) (cubes : List (List Literal)) (s t : EngineState) → t.rows ≡ s.rows → HasRowsOf f cubes s → HasRowsOf f cubes t
    same_rows f cubes s t e (clauses, rows, are) = (clauses, e ∙ rows, are)

-- the state of a search of the whole instance, of which the form is a normal form
pub whole_state : {C : Type 0} (p : Problem) (f : NormalForm) (t : SearchState C) → ClausesSayCubesAreFalse → t.engine.form ≡ f → f.vars ≡ p.vars → KeepsFeasible p f → KeepsCost p f → f.vars ≤ MAX_VARS → IsMade t.engine.form [] t → IsCubeState p t
whole_state p f t law is vars feasible costs few made =
    made_cube_state p t.engine.form t law (ap (λ (x : NormalForm). x.vars) is ∙ vars) (subst (λ (x : NormalForm). KeepsFeasible p x) (sym is) feasible) (subst (λ (x : NormalForm). KeepsCost p x) (sym is) costs)
    (subst (λ (n : ℕ). n ≤ MAX_VARS) vars few) made

-- a search is laid out as before where the state of the remainder has the same constraints
pub rest_laid_out : {C : Type 0} (p : Problem) (pieces : CubeList) (cube : Option (SearchState C)) (rest new : SearchState C) → IsLaidOut p pieces cube rest → IsStateOf p new → SameConstraints rest.engine new.engine → IsLaidOut p pieces cube new
rest_laid_out p pieces cube rest new h made same = record {
  vars = h.vars;
  no_cubes = h.no_cubes;
  cube_state = h.cube_state;
  rest_state = made;
  rest_rows = subst (λ (rows : List PositiveRow). (a : List Bool) → MeetsRows a rows ↔ (IsFeasible p a × All (λ c. MakesFalse a c) pieces.cubes)) (sym same.rows) h.rest_rows;
}
