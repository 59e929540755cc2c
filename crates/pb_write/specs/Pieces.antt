-- The instance of one piece: the whole instance, and the clauses that its assignments alone meet.
use Rattle.std.specs.Prelude.{ℕ, ◌≤◌, not, List, [], ◌∷◌, ◌++◌, length, map, slice_get}
use Rattle.std.specs.Option.{option_map_or}
use Rattle.pb_inst.specs.declared.limits.TheConstants.{MAX_CONSTRAINTS, MAX_TERMS}
use Rattle.pb_inst.specs.Constraints.{clause_constraint}
use Rattle.pb_inst.specs.Limits.{term_count}
use Rattle.pb_inst.specs.Literal.{Literal}
use Rattle.pb_inst.specs.Problem.{Problem, statements}
use Rattle.pb_cubes.specs.declared.pieces.Piece.{Piece}
use Rattle.pb_cubes.specs.declared.pieces.Piece.TheVariants.{Cube, Rest}

abbrev pub negation : Literal → Literal
negation l = record { var = l.var; positive = not l.positive }

-- one clause for each literal of the cube: all are true
abbrev pub unit_clauses : List Literal → List (List Literal)
unit_clauses cube = map (λ l. l ∷ []) cube

-- some literal of the cube is false
abbrev pub negated_clause : List Literal → List Literal
negated_clause cube = map negation cube

-- piece i of the cubes: the literals of cube i, or, for the number after the last, the negation of each cube
abbrev pub piece_clauses : List (List Literal) → ℕ → List (List Literal)
piece_clauses cubes i = option_map_or unit_clauses (slice_get cubes i) (map negated_clause cubes)

-- the instance with these clauses behind its constraints
abbrev pub with_clauses : Problem → List (List Literal) → Problem
with_clauses p clauses = record p { constraints = p.constraints ++ map clause_constraint clauses }

-- the instance of piece i
abbrev pub piece_problem : Problem → List (List Literal) → ℕ → Problem
piece_problem p cubes i = with_clauses p (piece_clauses cubes i)

-- the clauses of a piece as a caller gets it
abbrev pub clauses_of : Piece → List (List Literal)
clauses_of (Cube cube) = unit_clauses cube.now
clauses_of (Rest rest) = map negated_clause rest.now

-- the limits on constraints and terms are kept
pub record KeepsCounts (p : Problem) : Type 0 where
  pub constraints : length p.constraints ≤ MAX_CONSTRAINTS
  pub terms : term_count (statements p) ≤ MAX_TERMS
