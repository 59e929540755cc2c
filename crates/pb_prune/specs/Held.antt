-- What is held by an incumbent, before and after.
use Rattle.std.specs.Prelude.{◌≡◌, Bool, List, Option, None, Some, ◌⊎◌}
use Rattle.pb_inst.specs.Problem.{Problem}
use Rattle.pb_inst.specs.Order.{IsBefore}
use Rattle.pb_inst.specs.Incumbent.{Incumbent, Solution, IsSound}

-- nothing is held, or the assignment is before what is held
abbrev pub IsImprovement : Problem → List Bool → Option Solution → Type 0
IsImprovement p a None = Unit {0}
IsImprovement p a (Some s) = IsBefore p a s.assignment

-- what is held is what was held, or is before it; where something was held, something is
abbrev pub IsNotAfter : Problem → Option Solution → Option Solution → Type 0
IsNotAfter p None new = Unit {0}
IsNotAfter p (Some old) None = ⊥
IsNotAfter p (Some old) (Some new) = (new ≡ old) ⊎ IsBefore p new.assignment old.assignment

-- the incumbent is of the same instance, and what it holds is no later
pub record MovesOn (old new : Incumbent) : Type 0 where
  pub same_instance : new.problem ≡ old.problem
  pub sound : IsSound old → IsSound new
  pub not_after : IsNotAfter old.problem old.held new.held
