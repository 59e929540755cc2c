-- Laws of the order of assignments.
use Rattle.std.specs.Prelude.{◌≡◌, ◌⊎◌, Bool, List, length}
use Rattle.pb_inst.specs.Problem.{Problem}
use Rattle.pb_inst.specs.Meaning.{IsFeasible}
use Rattle.pb_inst.specs.Order.{IsBefore, IsLeast}

-- no assignment is before itself
abbrev pub NoneBeforeItself : Type 0
NoneBeforeItself = (p : Problem) (a : List Bool) → ¬ IsBefore p a a

-- what is before an assignment is before what follows it
abbrev pub BeforeIsTransitive : Type 0
BeforeIsTransitive = (p : Problem) (a b c : List Bool) → IsBefore p a b → IsBefore p b c → IsBefore p a c

-- of two assignments to the same variables one is before the other, or they are the same
abbrev pub BeforeIsTotal : Type 0
BeforeIsTotal = (p : Problem) (a b : List Bool) → length a ≡ length b → IsBefore p a b ⊎ ((a ≡ b) ⊎ IsBefore p b a)

-- at most one assignment is least
abbrev pub LeastIsUnique : Type 0
LeastIsUnique = (p : Problem) (a b : List Bool) → IsLeast p a → IsLeast p b → a ≡ b

-- where some assignment is feasible, one is least
abbrev pub LeastExists : Type 0
LeastExists = (p : Problem) (a : List Bool) → length a ≡ p.vars → IsFeasible p a → (b : List Bool) × IsLeast p b
