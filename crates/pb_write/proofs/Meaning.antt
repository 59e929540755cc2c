-- What the clauses of a piece mean under an assignment.
use Rattle.std.proofs.Common.{◌≡◌, ℕ, zero, suc, ◌+◌, ◌-◌, ◌≤◌, List, [], ◌∷◌, ◌++◌, length, get_or, map, Bool, true, false, not, cond, Option, None, Some, All, refl, sym, subst, arith, inl, inr, ◌⊎◌, pos}
use Rattle.std.specs.Prelude.{Any, sum_by, slice_get}
use Rattle.std.specs.Option.{option_map_or, IsSomeAnd}
use Rattle.std.proofs.lemmas.Int.{ints}
use Rattle.std.proofs.lemmas.List.Elements.{All-nil, All-cons, All-head, All-tail, All-append, All-map, All-weaker}
use Rattle.std.proofs.lemmas.List.Sums.{sum_by-cons}
use Rattle.std.proofs.lemmas.Option.{slice_get_past, slice_get_cases}
use Rattle.pb_inst.specs.Constraints.{unit_term, clause_constraint}
use Rattle.pb_inst.specs.Cubes.{MakesTrue, MakesFalse}
use Rattle.pb_inst.specs.Literal.{Literal}
use Rattle.pb_inst.specs.Meaning.{literal_value, sum_value, Meets}
use Rattle.pb_inst.proofs.SumLemmas.{term_value-true, term_value-false}
use Rattle.pb_inst.proofs.SumProofs.{sum_value-cons, literal_cases}
use Rattle.pb_read.proofs.Limits.{all_of, each_of, all_front, all_back}
use Rattle.pb_write.specs.Laws.{FeasibleInPiece, CostInPiece, VariablesInPiece}
use Rattle.pb_write.specs.Pieces.{negation, unit_clauses, negated_clause, piece_clauses}

-- ---- some of a list

any_here : {X : Type 0} (P : X → Type 0) (x : X) (xs : List X) → P x → Any P (x ∷ xs)
any_here P x xs h = (0, x, omega arith, refl, h)

any_there : {X : Type 0} (P : X → Type 0) (x : X) (xs : List X) → Any P xs → Any P (x ∷ xs)
any_there P x xs (k, y, within, read, h) = (suc k, y, omega arith, read, h)

any_cases : {X : Type 0} (P : X → Type 0) (x : X) (xs : List X) → Any P (x ∷ xs) → P x ⊎ Any P xs
any_cases P x xs (zero, y, within, read, h) = inl (subst P (sym read) h)
any_cases P x xs (suc k, y, within, read, h) = inr (k, y, omega arith, read, h)

none_in : {X : Type 0} (P : X → Type 0) → Any P [] → ⊥
none_in P (k, x, within, read, h) = absurd (omega arith)

any_map : {X Y : Type 0} (P : Y → Type 0) (Q : X → Type 0) (f : X → Y) → ((x : X) → Q x → P (f x)) → (xs : List X) → Any Q xs → Any P (map f xs)
any_map P Q f each [] h = absurd (none_in Q h)
any_map P Q f each (x ∷ xs) h = elim (any_cases Q x xs h) [
  | inl here ↦ any_here P (f x) (map f xs) (each x here)
  | inr there ↦ any_there P (f x) (map f xs) (any_map P Q f each xs there)
]

any_from_map : {X Y : Type 0} (P : Y → Type 0) (Q : X → Type 0) (f : X → Y) → ((x : X) → P (f x) → Q x) → (xs : List X) → Any P (map f xs) → Any Q xs
any_from_map P Q f each [] h = absurd (none_in P h)
any_from_map P Q f each (x ∷ xs) h = elim (any_cases P (f x) (map f xs) h) [
  | inl here ↦ any_here Q x xs (each x here)
  | inr there ↦ any_there Q x xs (any_from_map P Q f each xs there)
]

pub all_from_map : {X Y : Type 0} (P : Y → Type 0) (f : X → Y) (xs : List X) → All P (map f xs) → All (λ x. P (f x)) xs
all_from_map P f [] h = All-nil (λ x. P (f x))
all_from_map P f (x ∷ xs) h = All-cons (λ x. P (f x)) x xs (All-head P (f x) (map f xs) h) (all_from_map P f xs (All-tail P (f x) (map f xs) h))

-- ---- one clause

-- the sum of a clause is the number of its true literals
units_sum : (a : List Bool) (lits : List Literal) → sum_value a (map unit_term lits) ≡ pos (sum_by (literal_value a) lits)
units_sum a [] = refl
units_sum a (l ∷ lits) =
    let sum = sum_value-cons a (unit_term l) (map unit_term lits) in
    let rest = units_sum a lits in
    let count = sum_by-cons (literal_value a) l lits in
    elim (literal_cases a l) [
      | inl holds ↦ (let value = term_value-true a (unit_term l) holds in omega (arith, ints))
      | inr fails ↦ (let value = term_value-false a (unit_term l) fails in omega (arith, ints))
    ]

abbrev Holds : List Bool → Literal → Type 0
Holds a l = literal_value a l ≡ 1

abbrev Fails : List Bool → Literal → Type 0
Fails a l = literal_value a l ≡ 0

some_counts : (a : List Bool) (lits : List Literal) → Any (Holds a) lits → 1 ≤ sum_by (literal_value a) lits
some_counts a [] h = absurd (none_in (Holds a) h)
some_counts a (l ∷ lits) h =
    let count = sum_by-cons (literal_value a) l lits in
    elim (any_cases (Holds a) l lits h) [
      | inl here ↦ omega arith
      | inr there ↦ (let rest = some_counts a lits there in omega arith)
    ]

counts_some : (a : List Bool) (lits : List Literal) → 1 ≤ sum_by (literal_value a) lits → Any (Holds a) lits
counts_some a [] h = absurd (omega arith)
counts_some a (l ∷ lits) h =
    let count = sum_by-cons (literal_value a) l lits in
    elim (literal_cases a l) [
      | inl holds ↦ any_here (Holds a) l lits holds
      | inr fails ↦ any_there (Holds a) l lits (counts_some a lits (omega arith))
    ]

clause_met : (a : List Bool) (lits : List Literal) → Any (Holds a) lits → Meets a (clause_constraint lits)
clause_met a lits h = let sum = units_sum a lits in let count = some_counts a lits h in omega (arith, ints)

met_clause : (a : List Bool) (lits : List Literal) → Meets a (clause_constraint lits) → Any (Holds a) lits
met_clause a lits h = let sum = units_sum a lits in counts_some a lits (omega (arith, ints))

-- ---- the clauses of a piece

value_cases : (sign value : Bool) → (cond sign (cond value 1 0) (1 - cond value 1 0)) + (cond (not sign) (cond value 1 0) (1 - cond value 1 0)) ≡ 1
value_cases true true = refl
value_cases true false = refl
value_cases false true = refl
value_cases false false = refl

negation_value : (a : List Bool) (l : Literal) → literal_value a l + literal_value a (negation l) ≡ 1
negation_value a l = value_cases l.positive (get_or a (l.var - 1) false)

abbrev MeetsClause : List Bool → List Literal → Type 0
MeetsClause a lits = Meets a (clause_constraint lits)

unit_met : (a : List Bool) (l : Literal) → Holds a l → MeetsClause a (l ∷ [])
unit_met a l h = clause_met a (l ∷ []) (any_here (Holds a) l [] h)

met_unit : (a : List Bool) (l : Literal) → MeetsClause a (l ∷ []) → Holds a l
met_unit a l h = elim (any_cases (Holds a) l [] (met_clause a (l ∷ []) h)) [ inl here ↦ here | inr there ↦ absurd (none_in (Holds a) there) ]

negated_met : (a : List Bool) (cube : List Literal) → MakesFalse a cube → MeetsClause a (negated_clause cube)
negated_met a cube h =
    clause_met a (negated_clause cube) (any_map (Holds a) (Fails a) negation (λ l fails. (let both = negation_value a l in omega arith)) cube h)

met_negated : (a : List Bool) (cube : List Literal) → MeetsClause a (negated_clause cube) → MakesFalse a cube
met_negated a cube h =
    any_from_map (Holds a) (Fails a) negation (λ l holds. (let both = negation_value a l in omega arith)) cube (met_clause a (negated_clause cube) h)

-- an assignment meets the clauses of a cube exactly where it makes the cube true
cube_met : (a : List Bool) (cube : List Literal) → MakesTrue a cube → All (MeetsClause a) (unit_clauses cube)
cube_met a cube h = All-map (MeetsClause a) (λ l. l ∷ []) cube (All-weaker (Holds a) (λ l. MeetsClause a (l ∷ [])) (unit_met a) cube h)

met_cube : (a : List Bool) (cube : List Literal) → All (MeetsClause a) (unit_clauses cube) → MakesTrue a cube
met_cube a cube h = All-weaker (λ l. MeetsClause a (l ∷ [])) (Holds a) (met_unit a) cube (all_from_map (MeetsClause a) (λ l. l ∷ []) cube h)

-- and those of the remainder exactly where it makes each cube false
rest_met : (a : List Bool) (cubes : List (List Literal)) → All (MakesFalse a) cubes → All (MeetsClause a) (map negated_clause cubes)
rest_met a cubes h = All-map (MeetsClause a) negated_clause cubes (All-weaker (MakesFalse a) (λ cube. MeetsClause a (negated_clause cube)) (negated_met a) cubes h)

met_rest : (a : List Bool) (cubes : List (List Literal)) → All (MeetsClause a) (map negated_clause cubes) → All (MakesFalse a) cubes
met_rest a cubes h = All-weaker (λ cube. MeetsClause a (negated_clause cube)) (MakesFalse a) (met_negated a) cubes (all_from_map (MeetsClause a) negated_clause cubes h)

abbrev Inside : List Bool → List (List Literal) → ℕ → Option (List Literal) → Type 0
Inside a cubes i found = IsSomeAnd found (MakesTrue a) ⊎ ((i ≡ length cubes) × All (MakesFalse a) cubes)

abbrev clauses_found : List (List Literal) → Option (List Literal) → List (List Literal)
clauses_found cubes found = option_map_or unit_clauses found (map negated_clause cubes)

met_inside : (a : List Bool) (cubes : List (List Literal)) (i : ℕ) (found : Option (List Literal)) → (found ≡ None → i ≡ length cubes) → All (MeetsClause a) (clauses_found cubes found) → Inside a cubes i found
met_inside a cubes i None last h = inr (last refl, met_rest a cubes h)
met_inside a cubes i (Some cube) last h = inl (met_cube a cube h)

inside_met : (a : List Bool) (cubes : List (List Literal)) (i : ℕ) (found : Option (List Literal)) → (i ≡ length cubes → found ≡ None) → Inside a cubes i found → All (MeetsClause a) (clauses_found cubes found)
inside_met a cubes i None past (inl h) = absurd h
inside_met a cubes i None past (inr h) = rest_met a cubes h.1
inside_met a cubes i (Some cube) past (inl h) = cube_met a cube h
inside_met a cubes i (Some cube) past (inr h) = let none = past h.0 in absurd cc

last_piece : (cubes : List (List Literal)) (i : ℕ) → i ≤ length cubes → slice_get cubes i ≡ None → i ≡ length cubes
last_piece cubes i within none = elim (slice_get_cases cubes i).1 [
  | inl here ↦ (let found = here.2 in absurd cc)
  | inr past ↦ (let beyond = past.0 in omega arith)
]

-- ---- the laws

pub feasible_in_piece : FeasibleInPiece
feasible_in_piece p cubes i a within =
    let clauses = piece_clauses cubes i in (
      λ h. (
        all_of (Meets a) p.constraints (all_front (Meets a) p.constraints (map clause_constraint clauses) (each_of (Meets a) (p.constraints ++ map clause_constraint clauses) h)),
        met_inside a cubes i (slice_get cubes i) (last_piece cubes i within)
            (all_from_map (Meets a) clause_constraint clauses (all_of (Meets a) (map clause_constraint clauses) (all_back (Meets a) p.constraints (map clause_constraint clauses) (each_of (Meets a) (p.constraints ++ map clause_constraint clauses) h)))),
      ),
      λ h. All-append (Meets a) p.constraints (map clause_constraint clauses) h.0
          (All-map (Meets a) clause_constraint clauses (inside_met a cubes i (slice_get cubes i) (λ last. slice_get_past cubes i (omega arith)) h.1)),
    )

pub cost_in_piece : CostInPiece
cost_in_piece p cubes i a = refl

pub variables_in_piece : VariablesInPiece
variables_in_piece p cubes i = refl
