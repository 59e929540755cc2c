-- Assignments under assumptions, which are literals.
use Rattle.std.specs.Prelude.{◌≡◌, ℕ, ◌≤◌, Bool, List, length, filter, nat_le, All, Option, None, Some}
use Rattle.std.specs.Option.{IfSome}
use Rattle.pb_inst.specs.Literal.{Literal}
use Rattle.pb_inst.specs.Problem.{Problem}
use Rattle.pb_inst.specs.Meaning.{IsFeasible, cost, literal_value}
use Rattle.pb_inst.specs.Order.{IsBefore}
use Rattle.pb_inst.specs.Incumbent.{Solution}

-- every literal of one of the variables 1 to n is true; the others are free
abbrev pub MeetsAssumptions : ℕ → List Literal → List Bool → Type 0
MeetsAssumptions n assumed a = All (λ l. l.var ≤ n → literal_value a l ≡ 1) assumed

-- the assignment is one to the instance's variables, is feasible, and meets the assumptions
pub record IsFeasibleUnder (p : Problem) (assumed : List Literal) (a : List Bool) : Type 0 where
  pub for_all_variables : length a ≡ p.vars
  pub feasible : IsFeasible p a
  pub meets : MeetsAssumptions p.vars assumed a

-- no assignment is feasible under the assumptions
abbrev pub IsInfeasibleUnder : Problem → List Literal → Type 0
IsInfeasibleUnder p assumed = (a : List Bool) → ¬ IsFeasibleUnder p assumed a

-- the assignment is feasible under the assumptions, and no other one that is comes before it
pub record IsLeastUnder (p : Problem) (assumed : List Literal) (a : List Bool) : Type 0 where
  pub feasible : IsFeasibleUnder p assumed a
  pub first : (b : List Bool) → IsFeasibleUnder p assumed b → ¬ IsBefore p b a

-- what is held, if anything is, is feasible under the assumptions and has that cost
abbrev pub HoldsUnder : Problem → List Literal → Option Solution → Type 0
HoldsUnder p assumed held = IfSome held (λ s. IsFeasibleUnder p assumed s.assignment × (s.cost ≡ cost p s.assignment))

-- what is held is the least assignment under the assumptions with its cost, and nothing is held where none is feasible
abbrev pub HoldsLeastUnder : Problem → List Literal → Option Solution → Type 0
HoldsLeastUnder p assumed None = IsInfeasibleUnder p assumed
HoldsLeastUnder p assumed (Some s) = IsLeastUnder p assumed s.assignment × (s.cost ≡ cost p s.assignment)

-- the literals of the variables 1 to n, in order
abbrev pub named_literals : ℕ → List Literal → List Literal
named_literals n lits = filter (λ l. nat_le l.var n) lits
