-- What was sought under assumptions.
use Rattle.std.specs.Prelude.{◌≡◌, ◌≢◌, ℕ, Bool, false, List, Option, None, Some, ℤ, ◌≤ℤ◌, IsSomeAnd, slice_index_or, ⊤}
use Rattle.std.specs.Option.{IfSome}
use Rattle.pb_inst.specs.Literal.{Literal}
use Rattle.pb_inst.specs.Problem.{Problem}
use Rattle.pb_inst.specs.Meaning.{cost}
use Rattle.pb_control.specs.declared.goal.Goal.{Goal}
use Rattle.pb_questions.specs.declared.seeking.Sought.{Sought}
use Rattle.pb_questions.specs.declared.seeking.Sought.TheVariants.{Found, Nothing, Cut}
use Rattle.pb_questions.specs.Under.{IsFeasibleUnder}

-- the assignment is feasible under the assumptions, and costs no more than the bound, if there is one
pub record IsWithin (p : Problem) (assumed : List Literal) (bound : Option ℤ) (a : List Bool) : Type 0 where
  pub feasible : IsFeasibleUnder p assumed a
  pub within : IfSome bound (λ most. cost p a ≤ℤ most)

-- what a search for such an assignment is for
abbrev pub goal_within : Option ℤ → Goal
goal_within None = Goal.Any
goal_within (Some most) = Goal.AtMost most

-- such an assignment is held, or there is none
abbrev pub IsAnswerTo : Problem → List Literal → Option ℤ → Sought → Type 0
IsAnswerTo p assumed bound (Found best) = (best.problem ≡ p) × IsSomeAnd best.held (λ s. IsWithin p assumed bound s.assignment)
IsAnswerTo p assumed bound Nothing = (a : List Bool) → ¬ IsWithin p assumed bound a
IsAnswerTo p assumed bound Cut = ⊤

-- The same of an assignment in which the variable at the place has not this value.
abbrev pub IsAnswerToOther : Problem → List Literal → Option ℤ → ℕ → Bool → Sought → Type 0
IsAnswerToOther p assumed bound place value (Found best) = IsSomeAnd best.held (λ s. IsWithin p assumed bound s.assignment × (slice_index_or s.assignment place false ≢ value))
IsAnswerToOther p assumed bound place value Nothing = (a : List Bool) → IsWithin p assumed bound a → slice_index_or a place false ≡ value
IsAnswerToOther p assumed bound place value Cut = ⊤
