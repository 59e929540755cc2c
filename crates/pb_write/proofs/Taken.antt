-- A piece as it is taken from the list of pieces.
use Rattle.std.proofs.Common.{◌≡◌, ℕ, ◌≤◌, List, [], ◌∷◌, length, map, All, Bool, not, Option, append-nil, sym, ap, subst, ◌∙◌, arith}
use Rattle.std.specs.Option.{option_map_or}
use Rattle.std.proofs.lemmas.List.Elements.{All-nil, All-cons, All-map, All-weaker}
use Rattle.std.proofs.lemmas.Option.{get_or_from_slice_get, slice_get_past, slice_get_within}
use Rattle.pb_cubes.specs.declared.pieces.Piece.{Piece}
use Rattle.pb_cubes.specs.declared.pieces.Piece.TheVariants.{Cube, Rest}
use Rattle.pb_cubes.specs.Piece.{IsPiece}
use Rattle.pb_cubes.specs.Pieces.{AreWithin}
use Rattle.pb_inst.specs.Literal.{Literal}
use Rattle.pb_inst.specs.Problem.{LinearConstraint, Problem}
use Rattle.pb_write.specs.Pieces.{negation, unit_clauses, negated_clause, piece_clauses, with_clauses, clauses_of}

-- its clauses are those of its number
pub same_clauses : (cubes : List (List Literal)) (i : ℕ) (piece : Piece) → IsPiece cubes i piece → clauses_of piece ≡ piece_clauses cubes i
same_clauses cubes i (Cube cube) h = ap (λ (found : Option (List Literal)). option_map_or unit_clauses found (map negated_clause cubes)) (sym h)
same_clauses cubes i (Rest rest) h =
    let past : length cubes ≤ i = (let last = h.0 in omega arith) in
    ap (map negated_clause) h.1 ∙ ap (λ (found : Option (List Literal)). option_map_or unit_clauses found (map negated_clause cubes)) (sym (slice_get_past cubes i past))

abbrev IsUpTo : ℕ → Literal → Type 0
IsUpTo n l = l.var ≤ n

abbrev AreUpTo : ℕ → List Literal → Type 0
AreUpTo n lits = All (IsUpTo n) lits

units_within : (n : ℕ) (cube : List Literal) → AreUpTo n cube → AreWithin n (unit_clauses cube)
units_within n cube h = All-map (AreUpTo n) (λ l. l ∷ []) cube (All-weaker (IsUpTo n) (λ l. AreUpTo n (l ∷ [])) (λ l low. All-cons (IsUpTo n) l [] low (All-nil (IsUpTo n))) cube h)

negated_within : (n : ℕ) (cubes : List (List Literal)) → AreWithin n cubes → AreWithin n (map negated_clause cubes)
negated_within n cubes h = All-map (AreUpTo n) negated_clause cubes (All-weaker (AreUpTo n) (λ cube. AreUpTo n (negated_clause cube)) (λ cube low. All-map (IsUpTo n) negation cube low) cubes h)

-- they are of the variables that the cubes are of
pub clauses_within : (n : ℕ) (cubes : List (List Literal)) (i : ℕ) (piece : Piece) → AreWithin n cubes → IsPiece cubes i piece → AreWithin n (clauses_of piece)
clauses_within n cubes i (Cube cube) h is =
    units_within n cube.now (subst (AreUpTo n) (get_or_from_slice_get cubes i cube.now cube.now is) (h i cube.now (slice_get_within cubes i cube.now is)))
clauses_within n cubes i (Rest rest) h is = negated_within n rest.now (subst (AreWithin n) (sym is.1) h)

-- with no clauses it is the instance
pub with_none : (p : Problem) → with_clauses p [] ≡ p
with_none p = ap (λ (cs : List LinearConstraint). let q : Problem = record { vars = p.vars; objective = p.objective; constraints = cs } in q) (append-nil p.constraints)

pub is_negation : (l m : Literal) → m.var ≡ l.var → m.positive ≡ not l.positive → m ≡ negation l
is_negation l m variable sign =
    ap (λ (v : ℕ). let x : Literal = record { var = v; positive = m.positive } in x) variable ∙ ap (λ (b : Bool). let x : Literal = record { var = l.var; positive = b } in x) sign
