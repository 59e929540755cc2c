-- What the search of the whole fixed for good.
use Rattle.std.specs.Prelude.{◌≡◌, ◌≤◌, Bool, true, List, length, All, Option}
use Rattle.pb_inst.specs.Literal.{Literal}
use Rattle.pb_inst.specs.Problem.{Problem}
use Rattle.pb_inst.specs.Meaning.{IsFeasible}
use Rattle.pb_inst.specs.Cubes.{MakesTrue}
use Rattle.pb_inst.specs.Incumbent.{Incumbent, Solution}
use Rattle.pb_subtree.specs.Held.{IsImprovement}

-- literals that are fixed, whether the whole was searched, and what was held then
pub record Root : Type 0 where
  pub literals : List Literal
  pub closed : Bool
  pub best : Incumbent

-- the assignment is one to the instance's variables, is feasible, and is before what is held
pub record IsBetter (p : Problem) (held : Option Solution) (a : List Bool) : Type 0 where
  pub for_all_variables : length a ≡ p.vars
  pub feasible : IsFeasible p a
  pub improvement : IsImprovement p a held

-- what is feasible and before what is held makes the fixed literals true; where the whole was searched, nothing is
pub record IsFixedFor (p : Problem) (literals : List Literal) (closed : Bool) (held : Option Solution) : Type 0 where
  pub variables : All (λ l. l.var ≤ p.vars) literals
  pub fixed : (a : List Bool) → IsBetter p held a → MakesTrue a literals
  pub none_better : closed ≡ true → (a : List Bool) → ¬ IsBetter p held a
