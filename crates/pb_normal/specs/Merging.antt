-- The steps by which a sum of terms becomes a base and positive terms.
use Rattle.std.specs.Prelude.{◌≡◌, ℕ, ◌+◌, ◌*◌, ◌<◌, ◌≤◌, Bool, List, ◌++◌, length, map, All, min, ℤ, pos, ◌+ℤ◌, ◌≤ℤ◌, ◌↔◌, not, unsigned_abs}
use Rattle.pb_inst.specs.Limits.{total_magnitude, AllVariablesWithin}
use Rattle.pb_inst.specs.Meaning.{literal_value, term_value, sum_value}
use Rattle.pb_inst.specs.declared.constraints.Term.{Term}
use Rattle.pb_normal.specs.declared.terms.PositiveTerm.{PositiveTerm}
use Rattle.pb_normal.specs.Exact.{Inequality, Holds, AreRowsOf}
use Rattle.pb_normal.specs.NormalForm.{PositiveRow, positive_value, total_coefficient, MeetsRows, ArePositiveTerms, IsPositiveRow, HasSmallSums}

-- no term's variable is after the variable
abbrev pub NoneAfter : ℕ → List PositiveTerm → Type 0
NoneAfter var terms = All (λ t. t.lit.var ≤ var) terms

-- the two terms have the value of the joined one and a constant
pub record AreJoined (first second joined : PositiveTerm) (constant : ℕ) : Type 0 where
  pub value : (a : List Bool) → joined.coef * literal_value a joined.lit + constant ≡ first.coef * literal_value a first.lit + second.coef * literal_value a second.lit
  pub variable : joined.lit.var ≡ second.lit.var
  pub total : joined.coef + constant ≤ first.coef + second.coef
  pub small : constant ≤ second.coef

-- a term has been added at the end of the positive terms, or its coefficient is 0 and nothing has changed
pub record AddsNonzero (old : List PositiveTerm) (t : PositiveTerm) (new : List PositiveTerm) : Type 0 where
  pub count : length new ≤ length old + 1
  pub value : (a : List Bool) → positive_value a new ≡ positive_value a old + t.coef * literal_value a t.lit
  pub total : total_coefficient new ≡ total_coefficient old + t.coef
  pub none_after : NoneAfter t.lit.var old → NoneAfter t.lit.var new
  pub positive : (n : ℕ) → ArePositiveTerms n old → All (λ u. u.lit.var < t.lit.var) old → (1 ≤ t.lit.var) × (t.lit.var ≤ n) → ArePositiveTerms n new

-- a term with a coefficient that may be 0 has joined the positive terms, but for a constant
pub record AddsPositive (old : List PositiveTerm) (t : PositiveTerm) (constant : ℕ) (new : List PositiveTerm) : Type 0 where
  pub count : length new ≤ length old + 1
  pub value : (a : List Bool) → positive_value a new + constant ≡ positive_value a old + t.coef * literal_value a t.lit
  pub total : total_coefficient new + constant ≤ total_coefficient old + t.coef
  pub small : constant ≤ t.coef
  pub none_after : NoneAfter t.lit.var old → NoneAfter t.lit.var new
  pub positive : (n : ℕ) → ArePositiveTerms n old → NoneAfter t.lit.var old → (1 ≤ t.lit.var) × (t.lit.var ≤ n) → ArePositiveTerms n new

-- a term has joined the positive terms, but for a shift of the base
pub record AddsTerm (old : List PositiveTerm) (t : Term) (shift : ℤ) (new : List PositiveTerm) : Type 0 where
  pub count : length new ≤ length old + 1
  pub value : (a : List Bool) → pos (positive_value a new) +ℤ shift ≡ pos (positive_value a old) +ℤ term_value a t
  pub highest : (pos (total_coefficient new) +ℤ shift) ≤ℤ pos (total_coefficient old + unsigned_abs t.coef)
  pub total : total_coefficient new ≤ total_coefficient old + unsigned_abs t.coef
  pub small : unsigned_abs shift ≤ unsigned_abs t.coef
  pub none_after : NoneAfter t.lit.var old → NoneAfter t.lit.var new
  pub positive : (n : ℕ) → ArePositiveTerms n old → NoneAfter t.lit.var old → (1 ≤ t.lit.var) × (t.lit.var ≤ n) → ArePositiveTerms n new

-- the base and the positive terms have the value of the sum, stay within its magnitude, and are no more terms
pub record HasValueOf (terms : List Term) (base : ℤ) (positive : List PositiveTerm) : Type 0 where
  pub value : (a : List Bool) → base +ℤ pos (positive_value a positive) ≡ sum_value a terms
  pub lowest : unsigned_abs base ≤ total_magnitude terms
  pub total : total_coefficient positive ≤ total_magnitude terms
  pub highest : (base +ℤ pos (total_coefficient positive)) ≤ℤ pos (total_magnitude terms)
  pub count : length positive ≤ length terms

-- the base and the positive terms, by rising variables from 1 to n, have the value of the sum
pub record IsSumOf (n : ℕ) (terms : List Term) (base : ℤ) (positive : List PositiveTerm) : Type 0 where
  pub value : (a : List Bool) → base +ℤ pos (positive_value a positive) ≡ sum_value a terms
  pub variables : AllVariablesWithin n terms
  pub shape : ArePositiveTerms n positive

-- the term with its coefficient cut down to the degree
abbrev pub clipped : ℕ → PositiveTerm → PositiveTerm
clipped degree t = record { coef = min t.coef degree; lit = t.lit }

-- the term of the negated literal
abbrev pub opposite : PositiveTerm → PositiveTerm
opposite t = record { coef = t.coef; lit = record { var = t.lit.var; positive = not t.lit.positive } }

-- the rows of the inequalities, which say the same; they are positive over the variables 1 to n, and their sums are small
pub record AreNormalRows (n : ℕ) (inequalities : List Inequality) (rows : List PositiveRow) : Type 0 where
  pub exact : AreRowsOf inequalities rows
  pub means : (a : List Bool) → MeetsRows a rows ↔ All (λ i. Holds a i) inequalities
  pub positive : All (λ row. IsPositiveRow n row) rows
  pub small : All HasSmallSums rows

-- the rows of the inequalities have been added at the end
pub record AddsRows (n : ℕ) (inequalities : List Inequality) (old new : List PositiveRow) : Type 0 where
  pub own : List PositiveRow
  pub added : new ≡ old ++ own
  pub rows : AreNormalRows n inequalities own

-- the row of terms that are at least a degree
abbrev pub clipped_row : ℕ → List PositiveTerm → PositiveRow
clipped_row degree terms = record { terms = map (clipped degree) terms; degree = degree }
