-- Why nothing is feasible under assumptions.
use Rattle.std.specs.Prelude.{◌≡◌, ◌≢◌, ℕ, ◌<◌, ◌≤◌, Bool, true, List, length, All, Contains, slice_index_or, ⊤}
use Rattle.pb_inst.specs.Literal.{Literal}
use Rattle.pb_inst.specs.Problem.{Problem}
use Rattle.pb_inst.specs.Meaning.{IsFeasible, literal_value}
use Rattle.pb_questions.specs.declared.explaining.Core.{Core}
use Rattle.pb_questions.specs.declared.explaining.Explanation.{Explanation}
use Rattle.pb_questions.specs.Under.{IsFeasibleUnder, IsInfeasibleUnder}

-- some feasible assignment makes true every literal but the one at the place
pub record IsNeededAt (p : Problem) (literals : List Literal) (place : ℕ) : Type 0 where
  pub without : List Bool
  pub for_all_variables : length without ≡ p.vars
  pub feasible : IsFeasible p without
  pub others_true : (k : ℕ) (d : Literal) → k < length literals → k ≢ place → literal_value without (slice_index_or literals k d) ≡ 1

-- the literals are among the assumptions and of the instance's variables, and nothing is feasible under them; where they are
-- said to be minimal, something is without any one of them
pub record IsCore (p : Problem) (assumed : List Literal) (core : Core) : Type 0 where
  pub among : All (λ l. Contains assumed l) core.literals.items
  pub variables : All (λ l. l.var ≤ p.vars) core.literals.items
  pub infeasible : IsInfeasibleUnder p core.literals.items
  pub minimal : core.is_minimal ≡ true → (place : ℕ) → place < length core.literals.items → IsNeededAt p core.literals.items place

-- what the explanation says holds
abbrev pub IsExplained : Problem → List Literal → Explanation → Type 0
IsExplained p assumed Explanation.Feasible = (a : List Bool) × IsFeasibleUnder p assumed a
IsExplained p assumed (Explanation.Core core) = IsCore p assumed core
IsExplained p assumed Explanation.Cut = ⊤

-- no budget ended before all was known
abbrev pub IsInFull : Explanation → Type 0
IsInFull Explanation.Feasible = ⊤
IsInFull (Explanation.Core core) = core.is_minimal ≡ true
IsInFull Explanation.Cut = ⊥
