-- Rows of positive terms, and when they say the same as an instance.
use Rattle.std.specs.Prelude.{◌≡◌, ℕ, ◌*◌, ◌<◌, ◌≤◌, Bool, List, length, All, AllPairs, sum_by, ℤ, pos, ◌+ℤ◌, ◌≤ℤ◌, ◌↔◌, unsigned_abs}
use Rattle.pb_inst.specs.declared.limits.TheConstants.{MAX_CONSTRAINTS, SUM_BOUND}
use Rattle.pb_inst.specs.Problem.{Problem}
use Rattle.pb_inst.specs.Meaning.{literal_value, IsFeasible, cost}
use Rattle.pb_normal.specs.declared.terms.PositiveTerm.{PositiveTerm}

-- the sum of the terms is at least the degree
pub record PositiveRow : Type 0 where
  pub terms : List PositiveTerm
  pub degree : ℕ

-- rows over the variables 1 to `vars`, and the cost as a base and positive terms
pub record NormalForm : Type 0 where
  pub vars : ℕ
  pub rows : List PositiveRow
  pub base : ℤ
  pub objective : List PositiveTerm

-- the sum of coefficients times values
abbrev pub positive_value : List Bool → List PositiveTerm → ℕ
positive_value a terms = sum_by (λ t. t.coef * literal_value a t.lit) terms

-- the sum of the coefficients
abbrev pub total_coefficient : List PositiveTerm → ℕ
total_coefficient terms = sum_by (λ t. t.coef) terms

-- the assignment meets the row
abbrev pub MeetsRow : List Bool → PositiveRow → Type 0
MeetsRow a row = row.degree ≤ positive_value a row.terms

-- the assignment meets every row
abbrev pub MeetsRows : List Bool → List PositiveRow → Type 0
MeetsRows a rows = All (λ row. MeetsRow a row) rows

-- the base and the value of the objective's terms
abbrev pub normal_cost : NormalForm → List Bool → ℤ
normal_cost f a = f.base +ℤ pos (positive_value a f.objective)

-- an assignment meets all rows exactly where it is feasible
abbrev pub KeepsFeasible : Problem → NormalForm → Type 0
KeepsFeasible p f = (a : List Bool) → MeetsRows a f.rows ↔ IsFeasible p a

-- the cost of an assignment is the base and the objective's terms
abbrev pub KeepsCost : Problem → NormalForm → Type 0
KeepsCost p f = (a : List Bool) → normal_cost f a ≡ cost p a

-- coefficients are at least 1, and the variables are from 1 to n and rise, so none comes twice
pub record ArePositiveTerms (n : ℕ) (terms : List PositiveTerm) : Type 0 where
  pub coefficients : All (λ t. 1 ≤ t.coef) terms
  pub variables : All (λ t. (1 ≤ t.lit.var) × (t.lit.var ≤ n)) terms
  pub rising : AllPairs (λ t u. t.lit.var < u.lit.var) terms

-- the degree is at least 1, the terms are positive, and no coefficient is over the degree
pub record IsPositiveRow (n : ℕ) (row : PositiveRow) : Type 0 where
  pub degree : 1 ≤ row.degree
  pub terms : ArePositiveTerms n row.terms
  pub clipped : All (λ t. t.coef ≤ row.degree) row.terms

-- every row is positive, and so are the terms of the objective
pub record HasNormalShape (f : NormalForm) : Type 0 where
  pub rows : All (λ row. IsPositiveRow f.vars row) f.rows
  pub objective : ArePositiveTerms f.vars f.objective

-- the degree and the sum of the coefficients are within the bound on sums
abbrev pub HasSmallSums : PositiveRow → Type 0
HasSmallSums row = (row.degree ≤ SUM_BOUND) × (total_coefficient row.terms ≤ SUM_BOUND)

-- there are two rows for each constraint at most, and the sums of all rows, the base, and the least and the greatest cost are within the bound on sums
pub record HasNormalLimits (f : NormalForm) : Type 0 where
  pub row_count : length f.rows ≤ 2 * MAX_CONSTRAINTS
  pub rows : All HasSmallSums f.rows
  pub lowest : unsigned_abs f.base ≤ SUM_BOUND
  pub coefficients : total_coefficient f.objective ≤ SUM_BOUND
  pub highest : (f.base +ℤ pos (total_coefficient f.objective)) ≤ℤ pos SUM_BOUND

-- the normal shape, within the limits
pub record IsNormal (f : NormalForm) : Type 0 where
  pub shape : HasNormalShape f
  pub limits : HasNormalLimits f
