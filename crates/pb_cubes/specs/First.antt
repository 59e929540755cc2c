-- The first of what was found.
use Rattle.std.specs.Prelude.{List, Option, None, Some, All, Contains, ⊤}
use Rattle.std.specs.Option.{IfSome}
use Rattle.pb_inst.specs.Problem.{Problem}
use Rattle.pb_inst.specs.Order.{Precedes}
use Rattle.pb_inst.specs.Incumbent.{Solution, IsSolution}

-- the first is not a solution, or the second is one and the first is not before it
abbrev pub IsNotBefore : Option Solution → Option Solution → Type 0
IsNotBefore None other = ⊤
IsNotBefore (Some s) None = ⊥
IsNotBefore (Some s) (Some t) = ¬ Precedes s.cost s.assignment t.cost t.assignment

-- one of what was found, and none of it is before it; nothing only where nothing was found
pub record IsFirst (found : List (Option Solution)) (first : Option Solution) : Type 0 where
  pub one_of_them : Contains found first
  pub none_before : All (λ s. IsNotBefore s first) found

-- whatever was found is a solution of the instance
abbrev pub AreSolutions : Problem → List (Option Solution) → Type 0
AreSolutions p found = All (λ s. IfSome s (IsSolution p)) found
