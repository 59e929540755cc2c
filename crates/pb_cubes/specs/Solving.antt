-- What a solved instance holds.
use Rattle.std.specs.Prelude.{◌≡◌, Bool, List, length, Option, None, Some}
use Rattle.pb_inst.specs.Problem.{Problem}
use Rattle.pb_inst.specs.Meaning.{IsFeasible, cost}
use Rattle.pb_inst.specs.Order.{IsLeast}
use Rattle.pb_inst.specs.Incumbent.{Solution}

-- no assignment to the instance's variables meets every constraint
abbrev pub IsInfeasible : Problem → Type 0
IsInfeasible p = (a : List Bool) → length a ≡ p.vars → ¬ IsFeasible p a

-- what is held is the least assignment with its cost, and nothing is held where nothing is feasible
abbrev pub HoldsLeast : Problem → Option Solution → Type 0
HoldsLeast p None = IsInfeasible p
HoldsLeast p (Some s) = IsLeast p s.assignment × (s.cost ≡ cost p s.assignment)
