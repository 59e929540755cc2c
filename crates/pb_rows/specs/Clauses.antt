-- A cube that is to be false, as a row.
use Rattle.std.specs.Prelude.{◌≡◌, ◌<◌, List, [], ◌∷◌, map, All, AllPairs, Any, Contains}
use Rattle.pb_inst.specs.Literal.{Literal}
use Rattle.pb_normal.specs.declared.terms.PositiveTerm.{PositiveTerm}
use Rattle.pb_normal.specs.NormalForm.{PositiveRow}
use Rattle.pb_normal.specs.Literals.{negation}

-- the cube holds a literal and its negation, so it is always false
abbrev pub IsContradictory : List Literal → Type 0
IsContradictory cube = Any (λ l. Contains cube (negation l)) cube

-- the row says that some literal of the cube is false: its literals are the negations of the cube's, each once and by rising variable, with coefficients 1 and degree 1; a cube that contradicts itself has no such row
pub record IsClauseOf (cube : List Literal) (row : PositiveRow) : Type 0 where
  pub degree : row.degree ≡ 1
  pub units : All (λ t. t.coef ≡ 1) row.terms
  pub from_cube : All (λ t. Contains cube (negation t.lit)) row.terms
  pub whole : All (λ l. Any (λ t. t.lit ≡ negation l) row.terms) cube
  pub rising : AllPairs (λ t u. t.lit.var < u.lit.var) row.terms

-- each cube has its clause, in order, but one that contradicts itself has none
pub data AreClausesOf : List (List Literal) → List PositiveRow → Type 0 where
  no_cube : AreClausesOf [] []
  no_clause : (cube : List Literal) (cubes : List (List Literal)) (rows : List PositiveRow) → IsContradictory cube → AreClausesOf cubes rows → AreClausesOf (cube ∷ cubes) rows
  one_clause : (cube : List Literal) (row : PositiveRow) (cubes : List (List Literal)) (rows : List PositiveRow) → IsClauseOf cube row → AreClausesOf cubes rows → AreClausesOf (cube ∷ cubes) (row ∷ rows)

-- the literal with the coefficient 1
abbrev pub unit_term : Literal → PositiveTerm
unit_term l = record { coef = 1; lit = l }

-- at least one of the literals is true
abbrev pub clause_row : List Literal → PositiveRow
clause_row lits = record { terms = map unit_term lits; degree = 1 }
