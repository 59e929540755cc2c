-- What is said of the subtree below a trail.
use Rattle.std.specs.Prelude.{◌≡◌, ℕ, ◌+◌, ◌-◌, ◌<◌, ◌≤◌, ◌≤ℤ◌, Bool, true, false, List, length, IsSomeAnd, Option, None, Some, slice_index_or, unwrap_or}
use Rattle.pb_inst.specs.Literal.{Literal}
use Rattle.pb_inst.specs.Problem.{Problem}
use Rattle.pb_inst.specs.Meaning.{IsFeasible, cost, literal_value}
use Rattle.pb_inst.specs.Order.{IsLexBefore}
use Rattle.pb_inst.specs.Cubes.{MakesTrue}
use Rattle.pb_inst.specs.Incumbent.{Solution}
use Rattle.pb_normal.specs.NormalForm.{KeepsCost, MeetsRows}
use Rattle.pb_engine.specs.Trail.{value_on}
use Rattle.pb_engine.specs.EngineState.{EngineState}
use Rattle.pb_prune.specs.Held.{IsImprovement}
use Rattle.pb_prune.specs.Solutions.{Completes}

-- the engine has the instance's variables and costs, and an assignment that meets its rows is feasible
pub record IsEngineOf (p : Problem) (s : EngineState) : Type 0 where
  pub vars : s.vars ≡ p.vars
  pub feasible : (a : List Bool) → MeetsRows a s.rows → IsFeasible p a
  pub costs : KeepsCost p s.form

-- the value of a variable on the trail, with zeros elsewhere
abbrev pub bit_on : List Literal → ℕ → Bool
bit_on trail place = unwrap_or (value_on trail (place + 1)) false

-- the variable is one where the trail, with zeros elsewhere, and the assignment differ
pub record DifferAt (trail : List Literal) (a : List Bool) (var : ℕ) : Type 0 where
  pub from_one : 1 ≤ var
  pub within : var ≤ length a
  pub differ : ¬ (slice_index_or a (var - 1) false ≡ bit_on trail (var - 1))

-- of the places from `start` to before `end`, each where the assignment has 1 is true on the trail
abbrev pub HasOnesWithin : List Literal → List Bool → ℕ → ℕ → Type 0
HasOnesWithin trail a start end = (k : ℕ) → start ≤ k → k < end → slice_index_or a k false ≡ true → value_on trail (k + 1) ≡ Some true

-- what makes the trail true does not come before the assignment by its variables
abbrev pub IsNotBefore : List Literal → List Bool → Type 0
IsNotBefore trail b = (a : List Bool) → MakesTrue a trail → ¬ IsLexBefore a b

-- no completion of the trail costs less than the assignment, and before the variable each 1 of it is on the trail
pub record IsTiedWith (p : Problem) (s : EngineState) (b : List Bool) (var : ℕ) : Type 0 where
  pub no_less : (a : List Bool) → Completes s a → cost p b ≤ℤ cost p a
  pub ones : HasOnesWithin s.trail b 0 (var - 1)

-- the same of the assignment that is held
abbrev pub IsTied : Problem → EngineState → Option Solution → ℕ → Type 0
IsTied p s held var = IsSomeAnd held (λ t. IsTiedWith p s t.assignment var)

-- no completion of the trail is before what is held
abbrev pub IsClosed : Problem → EngineState → Option Solution → Type 0
IsClosed p s held = (a : List Bool) → Completes s a → ¬ IsImprovement p a held

-- every completion of the trail that is before what is held makes the literal true
abbrev pub IsOneSided : Problem → EngineState → Option Solution → Literal → Type 0
IsOneSided p s held l = (a : List Bool) → Completes s a → IsImprovement p a held → literal_value a l ≡ 1

-- the literal has no value, and its negation can lead to nothing better
pub record IsOpenOnOneSide (p : Problem) (s : EngineState) (held : Option Solution) (l : Literal) : Type 0 where
  pub variable : l.var ≤ s.vars
  pub no_value : value_on s.trail l.var ≡ None
  pub one_sided : IsOneSided p s held l
