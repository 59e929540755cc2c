-- What a search of a piece shows.
use Rattle.std.proofs.Common.{◌≡◌, ℕ, List, [], ◌∷◌, ◌++◌, length, sym, ◌∙◌, subst, Bool, true, All, inl, inr, ◌⊎◌, Option, None, Some, ◌↔◌}
use Rattle.std.specs.Prelude.{slice_get, IsSomeAnd}
use Rattle.std.specs.Option.{IfSome}
use Rattle.std.proofs.lemmas.List.Elements.{All-nil, All-append}
use Rattle.pb_inst.specs.Literal.{Literal}
use Rattle.pb_inst.specs.Problem.{Problem}
use Rattle.pb_inst.specs.Meaning.{literal_value, IsFeasible}
use Rattle.pb_inst.specs.Cubes.{MakesTrue, MakesFalse}
use Rattle.pb_inst.specs.Incumbent.{Incumbent, Solution, IsSolution, IsSound}
use Rattle.pb_normal.specs.NormalForm.{MeetsRows}
use Rattle.pb_engine.specs.EngineState.{EngineState}
use Rattle.pb_cubes.specs.Pieces.{LiesIn}
use Rattle.pb_cubes.specs.Done.{Division, IsCandidate, IsDone}
use Rattle.pb_control.specs.declared.goal.Goal.{Goal}
use Rattle.pb_control.specs.Goal.{IsMet}
use Rattle.pb_subtree.specs.Held.{IsImprovement, IsNotAfter}
use Rattle.pb_prune.specs.Subtree.{IsEngineOf}
use Rattle.pb_search.specs.Root.{IsBetter, IsFixedFor}
use Rattle.pb_subtree.proofs.HeldLemmas.{improvement_on_earlier}
use Rattle.pb_subtree.proofs.RootLemmas.{All_back}
use Rattle.pb_subtree.specs.Solutions.{SatisfiesUnder}

-- there is no cube past the last
pub none_past : (cubes : List (List Literal)) (P : List Literal → Type 0) → ¬ IsSomeAnd (slice_get cubes (length cubes)) P
none_past [] P h = h
none_past (c ∷ cubes) P h = none_past cubes P h

-- a candidate of a cube's piece
pub cube_candidate : (d : Division) (i : ℕ) (s : EngineState) (cube : List Literal) (a : List Bool) → s.vars ≡ d.problem.vars → ((a : List Bool) → IsFeasible d.problem a → MeetsRows a s.rows) → slice_get d.cubes i ≡ Some cube → IsCandidate d i a → SatisfiesUnder s cube a
cube_candidate d i s cube a vars rows is h = record {
  solution = record { for_all_variables = h.for_all_variables ∙ sym vars; meets_rows = rows a h.feasible };
  makes_true = from_piece h.in_piece;
}
  where
    from_piece : LiesIn d.cubes i a → MakesTrue a cube
    from_piece (inl inside) = subst (λ (o : Option (List Literal)). IsSomeAnd o (λ c. MakesTrue a c)) is inside
    from_piece (inr rest) = absurd (none_past d.cubes (λ c. Unit {0}) (subst (λ (n : ℕ). IsSomeAnd (slice_get d.cubes n) (λ c. Unit {0})) rest.0 (subst (λ (o : Option (List Literal)). IsSomeAnd o (λ c. Unit {0})) (sym is) tt)))

-- the rows of the remainder: the instance's, and that each cube is false
abbrev pub AreRestRows : Division → EngineState → Type 0
AreRestRows d s = (a : List Bool) → MeetsRows a s.rows ↔ (IsFeasible d.problem a × All (λ cube. MakesFalse a cube) d.cubes)

-- a candidate of the remainder
pub rest_candidate : (d : Division) (i : ℕ) (s : EngineState) (a : List Bool) → s.vars ≡ d.problem.vars → AreRestRows d s → i ≡ length d.cubes → IsCandidate d i a → SatisfiesUnder s [] a
rest_candidate d i s a vars rows is h = record {
  solution = record { for_all_variables = h.for_all_variables ∙ sym vars; meets_rows = (rows a).1 (h.feasible, from_piece h.in_piece) };
  makes_true = All-nil (λ l. literal_value a l ≡ 1);
}
  where
    from_piece : LiesIn d.cubes i a → All (λ c. MakesFalse a c) d.cubes
    from_piece (inl inside) = absurd (none_past d.cubes (λ c. MakesTrue a c) (subst (λ (n : ℕ). IsSomeAnd (slice_get d.cubes n) (λ c. MakesTrue a c)) is inside))
    from_piece (inr rest) = rest.1

-- what solutions of the remainder and of a cube's piece are
rest_inside : (d : Division) (i : ℕ) (s : EngineState) (o : Option Solution) → AreRestRows d s → i ≡ length d.cubes → IsSomeAnd o (λ r. SatisfiesUnder s [] r.assignment) → IsSomeAnd o (λ r. LiesIn d.cubes i r.assignment)
rest_inside d i s None rows is h = h
rest_inside d i s (Some r) rows is h = inr (is, ((rows r.assignment).0 h.solution.meets_rows).1)

-- a piece is done once no candidate improves on what is held
done_from : (d : Division) (i : ℕ) (held : Option Solution) → IfSome held (λ s. IsSolution d.problem s) → ((a : List Bool) → IsCandidate d i a → ¬ IsImprovement d.problem a held) → IsDone d i held
done_from d i None sound none = λ a h. none a h tt
done_from d i (Some s) sound none = (sound, none)

-- the search below a cube has done its piece
pub cube_done : (p : Problem) (d : Division) (i : ℕ) (s : EngineState) (cube : List Literal) (new : Incumbent) → p ≡ d.problem → new.problem ≡ p → s.vars ≡ d.problem.vars → ((a : List Bool) → IsFeasible d.problem a → MeetsRows a s.rows) → slice_get d.cubes i ≡ Some cube → IsSound new → ((a : List Bool) → SatisfiesUnder s cube a → ¬ IsImprovement p a new.held) → IsDone d i new.held
cube_done p d i s cube new e f vars rows is sound none =
    done_from d i new.held (subst (λ (x : Problem). IfSome new.held (λ t. IsSolution x t)) (f ∙ e) sound)
    (λ a h better. none a (cube_candidate d i s cube a vars rows is h) (subst (λ (x : Problem). IsImprovement x a new.held) (sym e) better))

-- the search of the remainder has done its piece
pub rest_done : (p : Problem) (d : Division) (i : ℕ) (s : EngineState) (new : Incumbent) → p ≡ d.problem → new.problem ≡ p → s.vars ≡ d.problem.vars → AreRestRows d s → i ≡ length d.cubes → IsSound new → ((a : List Bool) → SatisfiesUnder s [] a → ¬ IsImprovement p a new.held) → IsDone d i new.held
rest_done p d i s new e f vars rows is sound none =
    done_from d i new.held (subst (λ (x : Problem). IfSome new.held (λ t. IsSolution x t)) (f ∙ e) sound)
    (λ a h better. none a (rest_candidate d i s a vars rows is h) (subst (λ (x : Problem). IsImprovement x a new.held) (sym e) better))

pub rest_own : (d : Division) (i : ℕ) (s : EngineState) (old new : Incumbent) → AreRestRows d s → i ≡ length d.cubes → (new ≡ old) ⊎ IsSomeAnd new.held (λ r. SatisfiesUnder s [] r.assignment) → (new ≡ old) ⊎ IsSomeAnd new.held (λ r. LiesIn d.cubes i r.assignment)
rest_own d i s old new rows is (inl same) = inl same
rest_own d i s old new rows is (inr found) = inr (rest_inside d i s new.held rows is found)

-- what a search under a cube found makes the cube true
pub own_makes_true : (s : EngineState) (cube : List Literal) (old new : Incumbent) → (new ≡ old) ⊎ IsSomeAnd new.held (λ r. SatisfiesUnder s cube r.assignment) → (new ≡ old) ⊎ IsSomeAnd new.held (λ r. MakesTrue r.assignment cube)
own_makes_true s cube old new (inl same) = inl same
own_makes_true s cube old new (inr found) = inr (within new.held found)
  where
    within : (o : Option Solution) → IsSomeAnd o (λ r. SatisfiesUnder s cube r.assignment) → IsSomeAnd o (λ r. MakesTrue r.assignment cube)
    within None h = h
    within (Some r) h = h.makes_true

-- what a search under a cube found lies in the cube's piece
pub cube_own : (d : Division) (i : ℕ) (s : EngineState) (cube : List Literal) (old new : Incumbent) → slice_get d.cubes i ≡ Some cube → (new ≡ old) ⊎ IsSomeAnd new.held (λ r. SatisfiesUnder s cube r.assignment) → (new ≡ old) ⊎ IsSomeAnd new.held (λ r. LiesIn d.cubes i r.assignment)
cube_own d i s cube old new is (inl same) = inl same
cube_own d i s cube old new is (inr found) = inr (inside new.held found)
  where
    inside : (o : Option Solution) → IsSomeAnd o (λ r. SatisfiesUnder s cube r.assignment) → IsSomeAnd o (λ r. LiesIn d.cubes i r.assignment)
    inside None h = h
    inside (Some r) h = inl (subst (λ (o : Option (List Literal)). IsSomeAnd o (λ c. MakesTrue r.assignment c)) (sym is) h.makes_true)

-- what is held is as before, or lies in the piece
abbrev pub IsOwnOf : Division → ℕ → Incumbent → Incumbent → Type 0
IsOwnOf d piece old new = new ≡ old ⊎ IsSomeAnd new.held (λ s. LiesIn d.cubes piece s.assignment)

-- so it does under other names of the division and of what is held
pub own_renamed : (d e : Division) (piece : ℕ) (old new after : Incumbent) → e ≡ d → after ≡ new → IsOwnOf e piece old new → IsOwnOf d piece old after
own_renamed d e piece old new after same is h = subst (λ (i : Incumbent). IsOwnOf d piece old i) (sym is) (subst (λ (v : Division). IsOwnOf v piece old new) same h)

-- a search for the least assignment is cut by its budget alone
pub used_up : {left : Option ℕ} (held : Option Solution) → (left ≡ Some 0) ⊎ IsMet Goal.Least held → left ≡ Some 0
used_up held (inl none_left) = none_left
used_up held (inr met) = absurd met

-- what a search below the fixed literals and a cube shows of those below the cube
pub without_root : (p : Problem) (s : EngineState) (root cube : List Literal) (closed : Bool) (old new : Option Solution) → IsEngineOf p s → IsFixedFor p root closed old → IsNotAfter p old new → ((a : List Bool) → SatisfiesUnder s (root ++ cube) a → ¬ IsImprovement p a new) → (a : List Bool) → SatisfiesUnder s cube a → ¬ IsImprovement p a new
without_root p s root cube closed old new engine fixed later none a h better =
    let first : IsBetter p old a = record { for_all_variables = h.solution.for_all_variables ∙ engine.vars; feasible = engine.feasible a h.solution.meets_rows; improvement = improvement_on_earlier p a old new later better } in
    none a (record { solution = h.solution; makes_true = All-append (λ l. literal_value a l ≡ 1) root cube (fixed.fixed a first) h.makes_true }) better

-- and what was found lies below the cube
pub found_below : (s : EngineState) (root cube : List Literal) (old new : Incumbent) → (new ≡ old) ⊎ IsSomeAnd new.held (λ r. SatisfiesUnder s (root ++ cube) r.assignment) → (new ≡ old) ⊎ IsSomeAnd new.held (λ r. SatisfiesUnder s cube r.assignment)
found_below s root cube old new (inl same) = inl same
found_below s root cube old new (inr found) = inr (within new.held found)
  where
    within : (o : Option Solution) → IsSomeAnd o (λ r. SatisfiesUnder s (root ++ cube) r.assignment) → IsSomeAnd o (λ r. SatisfiesUnder s cube r.assignment)
    within None h = h
    within (Some r) h = record { solution = h.solution; makes_true = All_back (λ l. literal_value r.assignment l ≡ 1) root cube h.makes_true }

-- where the whole was searched every piece is done
pub closed_done : (d : Division) (i : ℕ) (root : List Literal) (closed : Bool) (best : Incumbent) → best.problem ≡ d.problem → IsSound best → IsFixedFor d.problem root closed best.held → closed ≡ true → IsDone d i best.held
closed_done d i root closed best e sound fixed is =
    done_from d i best.held (subst (λ (x : Problem). IfSome best.held (λ t. IsSolution x t)) e sound)
    (λ a h better. fixed.none_better is a (record { for_all_variables = h.for_all_variables; feasible = h.feasible; improvement = better }))

-- an assignment that meets the rows of an engine over the instance, and is before what is held, makes the fixed literals true
pub fixed_under : (p : Problem) (s : EngineState) (literals : List Literal) (closed : Bool) (held : Option Solution) (a : List Bool) → IsEngineOf p s → IsFixedFor p literals closed held → SatisfiesUnder s [] a → IsImprovement p a held → MakesTrue a literals
fixed_under p s literals closed held a engine fixed h better = fixed.fixed a (record { for_all_variables = h.solution.for_all_variables ∙ engine.vars; feasible = engine.feasible a h.solution.meets_rows; improvement = better })
