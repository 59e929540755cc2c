-- The normal form of an instance, exactly: which rows, in which order, with which degrees and coefficients.
use Rattle.std.specs.Prelude.{◌≡◌, ℕ, ◌<◌, ◌≤◌, Bool, true, false, List, [], ◌∷◌, fold, map, All, AllPairs, if◌then◌else◌, ℤ, pos, ◌+ℤ◌, ◌-ℤ◌, ◌≤ℤ◌, neg_ℤ}
use Rattle.std.specs.Int.{int_min, int_max}
use Rattle.std.specs.List.{flat_map, range_with_len}
use Rattle.std.specs.Option.{option_map_or}
use Rattle.pb_inst.specs.declared.constraints.Term.{Term}
use Rattle.pb_inst.specs.declared.constraints.Relation.{Relation}
use Rattle.pb_inst.specs.declared.constraints.Relation.TheVariants.{AtLeast, AtMost, Equal}
use Rattle.pb_inst.specs.Limits.{AllVariablesWithin}
use Rattle.pb_inst.specs.Literal.{Literal}
use Rattle.pb_inst.specs.Meaning.{sum_value}
use Rattle.pb_inst.specs.Problem.{LinearConstraint, Problem}
use Rattle.pb_normal.specs.declared.terms.PositiveTerm.{PositiveTerm}
use Rattle.pb_normal.specs.Literals.{negation, same_literal, weight_of}
use Rattle.pb_normal.specs.NormalForm.{PositiveRow, NormalForm}

-- the sum of the terms is at least the bound
pub record Inequality : Type 0 where
  pub terms : List Term
  pub bound : ℤ

-- the assignment gives the sum at least the bound
abbrev pub Holds : List Bool → Inequality → Type 0
Holds a i = i.bound ≤ℤ sum_value a i.terms

-- the term with the negated coefficient
abbrev pub negated : Term → Term
negated t = record { coef = neg_ℤ t.coef; lit = t.lit }

-- what a constraint says, as sums that are at least a bound: of `<=` coefficients and bound are negated, and an equality is its `>=` before its `<=`
abbrev pub inequalities_of : Relation → List Term → ℤ → List Inequality
inequalities_of AtLeast terms bound = record { terms = terms; bound = bound } ∷ []
inequalities_of AtMost terms bound = record { terms = map negated terms; bound = neg_ℤ bound } ∷ []
inequalities_of Equal terms bound = record { terms = terms; bound = bound } ∷ record { terms = map negated terms; bound = neg_ℤ bound } ∷ []

abbrev pub inequalities : LinearConstraint → List Inequality
inequalities c = inequalities_of c.relation c.terms c.bound

-- the sum of the literal's coefficients as they are written, of any sign
abbrev pub coefficient_of : Literal → List Term → ℤ
coefficient_of l terms = fold (λ sum t. sum +ℤ (if same_literal l t.lit then t.coef else pos 0)) (pos 0) terms

-- what the literal has more than its negation, and 0 where it has less
abbrev pub surplus : Literal → List Term → ℤ
surplus l terms = int_max (pos 0) (coefficient_of l terms -ℤ coefficient_of (negation l) terms)

-- no assignment gives the sum less, and some assignment gives it that
pub record IsLeastValue (terms : List Term) (least : ℤ) : Type 0 where
  pub below_all : (a : List Bool) → least ≤ℤ sum_value a terms
  pub place : List Bool
  pub reached : sum_value place terms ≡ least

-- coefficients are at least 1, variables rise, and each literal has its weight; a literal of weight 0 does not stand there
pub record HasWeights (terms : List PositiveTerm) (weight : Literal → ℤ) : Type 0 where
  pub coefficients : All (λ t. 1 ≤ t.coef) terms
  pub rising : AllPairs (λ t u. t.lit.var < u.lit.var) terms
  pub weights : (l : Literal) → pos (weight_of l terms) ≡ weight l

-- the degree is what the bound is above the least value of the sum, and each literal has its surplus, but no more than the degree
pub record IsRowOf (i : Inequality) (row : PositiveRow) : Type 0 where
  pub least : IsLeastValue i.terms (i.bound -ℤ pos row.degree)
  pub degree : 1 ≤ row.degree
  pub terms : HasWeights row.terms (λ l. int_min (pos row.degree) (surplus l i.terms))

-- every assignment does
abbrev pub AlwaysHolds : Inequality → Type 0
AlwaysHolds i = (a : List Bool) → Holds a i

-- each inequality has its row, in order, but one that always holds has none
pub data AreRowsOf : List Inequality → List PositiveRow → Type 0 where
  none : AreRowsOf [] []
  no_row : (i : Inequality) (inequalities : List Inequality) (rows : List PositiveRow) → AlwaysHolds i → AreRowsOf inequalities rows → AreRowsOf (i ∷ inequalities) rows
  one_row : (i : Inequality) (row : PositiveRow) (inequalities : List Inequality) (rows : List PositiveRow) → IsRowOf i row → AreRowsOf inequalities rows
      → AreRowsOf (i ∷ inequalities) (row ∷ rows)

-- the terms of the objective, and none without one
abbrev pub objective_terms : Problem → List Term
objective_terms p = option_map_or (λ terms. terms) p.objective []

-- the rows of all constraints in order, and the objective as its least value and the surplus of each literal
pub record IsNormalFormOf (p : Problem) (f : NormalForm) : Type 0 where
  pub vars : f.vars ≡ p.vars
  pub rows : AreRowsOf (flat_map inequalities p.constraints) f.rows
  pub base : IsLeastValue (objective_terms p) f.base
  pub objective : HasWeights f.objective (λ l. surplus l (objective_terms p))

-- an instance has one normal form
abbrev pub NormalFormIsUnique : Type 0
NormalFormIsUnique = (p : Problem) (f g : NormalForm) → IsNormalFormOf p f → IsNormalFormOf p g → f ≡ g

-- of each variable from 1 to n the lesser of its literals' coefficients, added up
abbrev pub sum_of_minima : ℕ → List Term → ℤ
sum_of_minima n terms = fold (λ sum var. sum +ℤ int_min (coefficient_of (record { var = var; positive = true }) terms) (coefficient_of (record { var = var; positive = false }) terms)) (pos 0) (range_with_len 1 n)

-- that is the least value of a sum over those variables
abbrev pub LeastValueIsSumOfMinima : Type 0
LeastValueIsSumOfMinima = (n : ℕ) (terms : List Term) → AllVariablesWithin n terms → IsLeastValue terms (sum_of_minima n terms)
