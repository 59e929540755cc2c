-- How constraints and terms are counted.
use Rattle.std.proofs.Common.{◌≡◌, ℕ, ◌+◌, ◌<◌, ◌≤◌, List, [], ◌∷◌, length, take, get_or, map, All, Some, Bool, true, false, inl, inr, refl, sym, ap, subst, ◌∙◌, arith}
use Rattle.std.specs.Prelude.{slice_get, sum_by}
use Rattle.std.proofs.lemmas.Bool.{cases_lt, false≢true}
use Rattle.std.proofs.lemmas.List.{length-append, length-map, map_more, take_all}
use Rattle.std.proofs.lemmas.List.Elements.{All-more, All-push}
use Rattle.std.proofs.lemmas.List.Sums.{sum_by-append, sum_by-cons, sum_by_more, sum_by_more_le}
use Rattle.std.proofs.lemmas.Option.{get_or_from_slice_get, slice_get_within}
use Rattle.pb_inst.specs.Constraints.{unit_term, clause_constraint}
use Rattle.pb_inst.specs.declared.limits.TheConstants.{MAX_CONSTRAINTS, MAX_TERMS}
use Rattle.pb_inst.specs.Limits.{constraint_terms, term_count}
use Rattle.pb_inst.specs.Literal.{Literal}
use Rattle.pb_inst.specs.Problem.{LinearConstraint, Problem, statements}
use Rattle.pb_write.specs.Pieces.{negation, unit_clauses, negated_clause, with_clauses, KeepsCounts}

-- ---- of a list so far

pub constraint_terms_more : (cs : List LinearConstraint) (i : ℕ) (c : LinearConstraint) → slice_get cs i ≡ Some c → constraint_terms (take (i + 1) cs) ≡ constraint_terms (take i cs) + length c.terms
constraint_terms_more cs i c read =
    let more = sum_by_more (λ (d : LinearConstraint). length d.terms) cs i c (slice_get_within cs i c read) in
    let size = ap (λ (d : LinearConstraint). length d.terms) (get_or_from_slice_get cs i c c read) in
    omega arith

pub constraint_terms_more_le : (cs : List LinearConstraint) (i : ℕ) (c : LinearConstraint) → slice_get cs i ≡ Some c → constraint_terms (take i cs) + length c.terms ≤ constraint_terms cs
constraint_terms_more_le cs i c read =
    let more = sum_by_more_le (λ (d : LinearConstraint). length d.terms) cs i c (slice_get_within cs i c read) in
    let size = ap (λ (d : LinearConstraint). length d.terms) (get_or_from_slice_get cs i c c read) in
    omega arith

pub all_more : {X : Type 0} (P : X → Type 0) (xs : List X) (i : ℕ) (x : X) → slice_get xs i ≡ Some x → All P (take i xs) → P x → All P (take (i + 1) xs)
all_more P xs i x read before here = All-more P xs i x (slice_get_within xs i x read) before (subst P (sym (get_or_from_slice_get xs i x x read)) here)

pub all_done : {X : Type 0} (P : X → Type 0) (xs : List X) (i : ℕ) → length xs ≤ i → All P (take i xs) → All P xs
all_done P xs i done h = subst (λ l. All P l) (take_all i xs done) h

pub all_mapped : {X Y : Type 0} (P : Y → Type 0) (h : X → Y) (xs : List X) (i : ℕ) (x : X) → slice_get xs i ≡ Some x → All P (map h (take i xs)) → P (h x) → All P (map h (take (i + 1) xs))
all_mapped P h xs i x read before here =
    subst (λ l. All P l) (sym (map_more h xs i x (slice_get_within xs i x read)))
    (All-push P (map h (take i xs)) (h (get_or xs i x)) before (subst (λ y. P (h y)) (sym (get_or_from_slice_get xs i x x read)) here))

pub not_within : (b : Bool) (m n : ℕ) → (m ≤ n → b ≡ true) → b ≡ false → n < m
not_within b m n h is = elim (cases_lt n m) [ inl less ↦ less | inr within ↦ absurd (false≢true (sym is ∙ h within)) ]

-- ---- of a piece

pub unit_terms : (lits : List Literal) → sum_by length (unit_clauses lits) ≡ length lits
unit_terms [] = refl
unit_terms (l ∷ lits) = let sum = sum_by-cons (λ (c : List Literal). length c) (l ∷ []) (unit_clauses lits) in let rest = unit_terms lits in omega arith

pub negated_terms : (cubes : List (List Literal)) → sum_by length (map negated_clause cubes) ≡ sum_by length cubes
negated_terms [] = refl
negated_terms (cube ∷ cubes) =
    let left = sum_by-cons (λ (c : List Literal). length c) (negated_clause cube) (map negated_clause cubes) in
    let right = sum_by-cons (λ (c : List Literal). length c) cube cubes in
    let same = length-map cube negation in
    let rest = negated_terms cubes in
    omega arith

clause_terms : (clauses : List (List Literal)) → constraint_terms (map clause_constraint clauses) ≡ sum_by length clauses
clause_terms [] = refl
clause_terms (lits ∷ clauses) =
    let left = sum_by-cons (λ (c : LinearConstraint). length c.terms) (clause_constraint lits) (map clause_constraint clauses) in
    let right = sum_by-cons (λ (c : List Literal). length c) lits clauses in
    let same = length-map lits unit_term in
    let rest = clause_terms clauses in
    omega arith

pub constraints_with : (p : Problem) (clauses : List (List Literal)) → length (with_clauses p clauses).constraints ≡ length p.constraints + length clauses
constraints_with p clauses = length-append p.constraints (map clause_constraint clauses) ∙ ap (λ (n : ℕ). length p.constraints + n) (length-map clauses clause_constraint)

terms_with : (p : Problem) (clauses : List (List Literal)) → term_count (statements (with_clauses p clauses)) ≡ term_count (statements p) + sum_by length clauses
terms_with p clauses =
    let sum = sum_by-append (λ (c : LinearConstraint). length c.terms) p.constraints (map clause_constraint clauses) in
    let rest = clause_terms clauses in
    omega arith

pub keeps_counts : (p : Problem) (clauses : List (List Literal)) → length p.constraints + length clauses ≤ MAX_CONSTRAINTS → term_count (statements p) + sum_by length clauses ≤ MAX_TERMS → KeepsCounts (with_clauses p clauses)
keeps_counts p clauses few small = let constraints = constraints_with p clauses in let terms = terms_with p clauses in record { constraints = omega arith; terms = omega arith }

pub too_many_constraints : (p : Problem) (clauses : List (List Literal)) → MAX_CONSTRAINTS < length p.constraints + length clauses → KeepsCounts (with_clauses p clauses) → ⊥
too_many_constraints p clauses many h = let constraints = constraints_with p clauses in let kept = h.constraints in omega arith

pub too_many_terms : (p : Problem) (clauses : List (List Literal)) → MAX_TERMS < term_count (statements p) + sum_by length clauses → KeepsCounts (with_clauses p clauses) → ⊥
too_many_terms p clauses many h = let terms = terms_with p clauses in let kept = h.terms in omega arith
