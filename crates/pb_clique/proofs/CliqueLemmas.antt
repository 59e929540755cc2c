-- What cliques say, and what follows from them.
use Rattle.std.proofs.Common.{◌≡◌, ◌≢◌, ◌↔◌, ℕ, zero, suc, ◌+◌, ◌<◌, ◌≤◌, List, [], ◌∷◌, ◌++◌, ◌∙◌, length, get_or, take, map, Bool, Some, All, refl, sym, ap, subst, arith, inl, inr, ℤ, pos, ◌+ℤ◌}
use Rattle.std.specs.Prelude.{AllPairs, slice_get, slice_index_or, sum_by}
use Rattle.std.proofs.lemmas.Bool.{cases_lt}
use Rattle.std.proofs.lemmas.Int.{ints}
use Rattle.std.proofs.lemmas.List.{take_more}
use Rattle.std.proofs.lemmas.List.Elements.{All-append, All-cons, All-contains, All-contains_itself, All-get_or, All-head, All-nil, All-push, All-tail, Contains-append_left, Contains-append_right}
use Rattle.std.proofs.lemmas.List.Sums.{sum_by-cons}
use Rattle.std.proofs.lemmas.Option.{get_or_from_slice_get, slice_get_within}
use Rattle.pb_inst.specs.Constraints.{unit_term}
use Rattle.pb_inst.specs.Literal.{Literal}
use Rattle.pb_inst.specs.Meaning.{literal_value, term_value, sum_value, Stands, Meets, IsFeasible}
use Rattle.pb_inst.proofs.SumLemmas.{term_value-true, term_value-false}
use Rattle.pb_inst.proofs.SumProofs.{sum_value-cons, literal_cases}
use Rattle.pb_inst.specs.declared.constraints.Relation.{Relation}
use Rattle.pb_inst.specs.declared.constraints.Term.{Term}
use Rattle.pb_inst.specs.Problem.{LinearConstraint, Problem}
use Rattle.pb_normal.specs.NormalForm.{KeepsFeasible, NormalForm}
use Rattle.pb_clique.specs.Cliques.{IsOneTrue, IsClauseOf, Covers, IsClique, all_but_one, MeetsCliques, FollowsFrom, Keeps, SaysTheSame}

-- how many of the literals are true
abbrev pub true_ones : List Bool → List Literal → ℕ
true_ones a lits = sum_by (literal_value a) lits

-- the sum of literals that stand once each is how many are true
pub units_sum : (a : List Bool) (lits : List Literal) → sum_value a (map unit_term lits) ≡ pos (true_ones a lits)
units_sum a [] = refl
units_sum a (l ∷ lits) =
    let sum = sum_value-cons a (unit_term l) (map unit_term lits) in
    let rest = units_sum a lits in
    let count = sum_by-cons (literal_value a) l lits in
    elim (literal_cases a l) [
      | inl holds ↦ (let value = term_value-true a (unit_term l) holds in omega (arith, ints))
      | inr fails ↦ (let value = term_value-false a (unit_term l) fails in omega (arith, ints))
    ]

literal_value-le : (a : List Bool) (l : Literal) → literal_value a l ≤ 1
literal_value-le a l = elim (literal_cases a l) [
  | inl holds ↦ omega arith
  | inr fails ↦ omega arith
]

true_ones-le : (a : List Bool) (lits : List Literal) → true_ones a lits ≤ length lits
true_ones-le a [] = omega arith
true_ones-le a (l ∷ lits) =
    let count = sum_by-cons (literal_value a) l lits in
    let rest = true_ones-le a lits in
    let first = literal_value-le a l in
    omega arith

-- the literal at a place, and at most all others
place-le : (a : List Bool) (lits : List Literal) (i : ℕ) (d : Literal) → i < length lits → true_ones a lits + 1 ≤ literal_value a (slice_index_or lits i d) + length lits
place-le a [] i d within = absurd (omega arith)
place-le a (l ∷ lits) zero d within =
    let count = sum_by-cons (literal_value a) l lits in
    let rest = true_ones-le a lits in
    omega arith
place-le a (l ∷ lits) (suc i) d within =
    let count = sum_by-cons (literal_value a) l lits in
    let rest = place-le a lits i d (omega arith) in
    let first = literal_value-le a l in
    omega arith

-- the literals at two places, and at most all others
places-le : (a : List Bool) (lits : List Literal) (i j : ℕ) (d : Literal) → i < j → j < length lits → true_ones a lits + 2 ≤ literal_value a (slice_index_or lits i d) + literal_value a (slice_index_or lits j d) + length lits
places-le a lits i zero d before within = absurd (omega arith)
places-le a [] i (suc j) d before within = absurd (omega arith)
places-le a (l ∷ lits) zero (suc j) d before within =
    let count = sum_by-cons (literal_value a) l lits in
    let rest = place-le a lits j d (omega arith) in
    omega arith
places-le a (l ∷ lits) (suc i) (suc j) d before within =
    let count = sum_by-cons (literal_value a) l lits in
    let rest = places-le a lits i j d (omega arith) (omega arith) in
    let first = literal_value-le a l in
    omega arith

-- where all but one are true, one of any two is
pub one_of_two : (a : List Bool) (lits : List Literal) (i j : ℕ) (d : Literal) → i < j → j < length lits → Meets a (all_but_one lits) → IsOneTrue a (slice_index_or lits i d) (slice_index_or lits j d)
one_of_two a lits i j d before within met =
    let sum = units_sum a lits in
    let places = places-le a lits i j d before within in
    omega (arith, ints)

all_true : (a : List Bool) (lits : List Literal) → All (λ l. 1 ≤ literal_value a l) lits → length lits ≤ true_ones a lits
all_true a [] h = omega arith
all_true a (l ∷ lits) h =
    let count = sum_by-cons (literal_value a) l lits in
    let first = All-head (λ (m : Literal). 1 ≤ literal_value a m) l lits h in
    let rest = all_true a lits (All-tail (λ (m : Literal). 1 ≤ literal_value a m) l lits h) in
    omega arith

-- where of any two literals one is true, all but one are
clique_counts : (a : List Bool) (lits : List Literal) → AllPairs (IsOneTrue a) lits → length lits ≤ true_ones a lits + 1
clique_counts a [] h = omega arith
clique_counts a (l ∷ lits) h =
    let count = sum_by-cons (literal_value a) l lits in
    let rest = clique_counts a lits (λ i j d before within. h (suc i) (suc j) d (omega arith) (omega arith)) in
    elim (literal_cases a l) [
      | inl holds ↦ omega arith
      | inr fails ↦ (let others = all_true a lits (λ j d within. let one = h zero (suc j) d (omega arith) (omega arith) in omega arith) in omega arith)
    ]

-- what a clique says is met by each feasible assignment
pub clique_met : (p : Problem) (lits : List Literal) (a : List Bool) → IsClique p lits → IsFeasible p a → Meets a (all_but_one lits)
unfolding Covers
clique_met p lits a clique feasible =
    let sum = units_sum a lits in
    let count = clique_counts a lits (λ i j d before within. clique i j d before within a feasible) in
    omega (arith, ints)

-- ---- clauses

two_terms : (ts : List Term) (t u : Term) → length ts ≡ 2 → slice_get ts 0 ≡ Some t → slice_get ts 1 ≡ Some u → ts ≡ t ∷ u ∷ []
two_terms [] t u count first second = absurd (omega (arith, count))
two_terms (x ∷ []) t u count first second = absurd (omega (arith, count))
two_terms (x ∷ y ∷ []) t u count first second =
    ap (λ (z : Term). z ∷ y ∷ []) (get_or_from_slice_get (x ∷ y ∷ []) 0 t t first) ∙ ap (λ (z : Term). t ∷ z ∷ []) (get_or_from_slice_get (x ∷ y ∷ []) 1 u u second)
two_terms (x ∷ y ∷ z ∷ rest) t u count first second = absurd (omega (arith, count))

sum_of_two : (a : List Bool) (ts : List Term) (t u : Term) → ts ≡ t ∷ u ∷ [] → sum_value a ts ≡ term_value a t +ℤ term_value a u
sum_of_two a ts t u are =
    let first = sum_value-cons a t (u ∷ []) in
    let second = sum_value-cons a u [] in
    let value : sum_value a (t ∷ u ∷ []) ≡ term_value a t +ℤ term_value a u = omega (arith, ints) in
    ap (sum_value a) are ∙ value

-- what a constraint of this relation over two terms says
stands_so : (a : List Bool) (c : LinearConstraint) (r : Relation) (s : ℤ) → c.relation ≡ r → sum_value a c.terms ≡ s → (Meets a c → Stands r s c.bound) × (Stands r s c.bound → Meets a c)
stands_so a c r s relation sum = (
  λ met. subst (λ (z : ℤ). Stands r z c.bound) sum (subst (λ (q : Relation). Stands q (sum_value a c.terms) c.bound) relation met),
  λ stands. subst (λ (q : Relation). Stands q (sum_value a c.terms) c.bound) (sym relation) (subst (λ (z : ℤ). Stands r z c.bound) (sym sum) stands),
)

pub clause_from : (c : LinearConstraint) (r : Relation) (t u : Term) (l m : Literal) → c.relation ≡ r → length c.terms ≡ 2 → slice_get c.terms 0 ≡ Some t → slice_get c.terms 1 ≡ Some u
    → ((a : List Bool) → Stands r (term_value a t +ℤ term_value a u) c.bound ↔ IsOneTrue a l m) → IsClauseOf l m c
unfolding IsClauseOf
clause_from c r t u l m relation count first second says a =
    let so = stands_so a c r (term_value a t +ℤ term_value a u) relation (sum_of_two a c.terms t u (two_terms c.terms t u count first second)) in
    (λ met. (says a).0 (so.0 met), λ one. so.1 ((says a).1 one))

-- a clause of an instance covers its literals
pub covers_of_clause : (p : Problem) (c : LinearConstraint) (i : ℕ) (l m : Literal) → slice_get p.constraints i ≡ Some c → IsClauseOf l m c → Covers p l m × Covers p m l
unfolding IsClauseOf Covers
covers_of_clause p c i l m read clause =
    let met : (a : List Bool) → IsFeasible p a → IsOneTrue a l m = λ a feasible. (clause a).0 (subst (Meets a) (get_or_from_slice_get p.constraints i c c read) (All-get_or (Meets a) p.constraints i c (slice_get_within p.constraints i c read) feasible)) in
    (met, λ a feasible. let one = met a feasible in omega arith)

pub covers_as : (p : Problem) (l m k n : Literal) → k ≡ l → n ≡ m → Covers p l m → Covers p k n
covers_as p l m k n first second covers = subst (λ (x : Literal). Covers p x n) (sym first) (subst (λ (y : Literal). Covers p l y) (sym second) covers)

-- ---- what follows from cliques

pub both_stand : (a : List Bool) (lits : List Literal) (i j : ℕ) (l m : Literal) → i < length lits → j < length lits → i ≢ j → slice_index_or lits i l ≡ l → slice_index_or lits j l ≡ m → slice_index_or lits i m ≡ l → slice_index_or lits j m ≡ m → Meets a (all_but_one lits) → IsOneTrue a l m
both_stand a lits i j l m first second differ one other one' other' met = elim (cases_lt i j) [
  | inl before ↦ subst (λ (k : Literal). IsOneTrue a l k) other (subst (λ (k : Literal). IsOneTrue a k (slice_index_or lits j l)) one (one_of_two a lits i j l before second met))
  | inr after ↦ (let less : j < i = elim (cases_lt j i) [ inl h ↦ h | inr h ↦ absurd (differ (omega arith)) ] in
      let turned = subst (λ (k : Literal). IsOneTrue a m k) one' (subst (λ (k : Literal). IsOneTrue a k (slice_index_or lits i m)) other' (one_of_two a lits j i m less first met)) in omega arith)
]

pub follows_from : (cliques : List (List Literal)) (c : LinearConstraint) (l m : Literal) (k : ℕ) → k < length cliques → IsClauseOf l m c → ((a : List Bool) → Meets a (all_but_one (slice_index_or cliques k [])) → IsOneTrue a l m) → FollowsFrom cliques c
unfolding IsClauseOf FollowsFrom
follows_from cliques c l m k within clause has a say = (clause a).1 (has a (All-get_or (λ (lits : List Literal). Meets a (all_but_one lits)) cliques k [] within say))

-- ---- the constraints that are kept

all_left : {X : Type 0} (P : X → Type 0) (xs ys : List X) → All P (xs ++ ys) → All P xs
all_left P xs ys all k d h = All-contains P (xs ++ ys) (get_or xs k d) all (Contains-append_left xs ys (get_or xs k d) (All-contains_itself xs k d h))

all_right : {X : Type 0} (P : X → Type 0) (xs ys : List X) → All P (xs ++ ys) → All P ys
all_right P xs ys all k d h = All-contains P (xs ++ ys) (get_or ys k d) all (Contains-append_right xs ys (get_or ys k d) (All-contains_itself ys k d h))

one_more : {X : Type 0} (xs : List X) (i : ℕ) (x : X) → slice_get xs i ≡ Some x → take (i + 1) xs ≡ take i xs ++ x ∷ []
one_more xs i x read = take_more xs i x (slice_get_within xs i x read) ∙ ap (λ y. take i xs ++ y ∷ []) (get_or_from_slice_get xs i x x read)

pub keeps_none : (cliques : List (List Literal)) → Keeps cliques [] []
keeps_none cliques = record { sound = λ a met. met; whole = λ a met say. met }

pub keeps_followed : (cliques : List (List Literal)) (all kept : List LinearConstraint) (i : ℕ) (c : LinearConstraint) → slice_get all i ≡ Some c → FollowsFrom cliques c → Keeps cliques (take i all) kept → Keeps cliques (take (i + 1) all) kept
unfolding FollowsFrom
keeps_followed cliques all kept i c read follows keeps = subst (λ (front : List LinearConstraint). Keeps cliques front kept) (sym (one_more all i c read)) (record {
  sound = λ a met. keeps.sound a (all_left (Meets a) (take i all) (c ∷ []) met);
  whole = λ a met say. All-push (Meets a) (take i all) c (keeps.whole a met say) (follows a say);
})

pub keeps_added : (cliques : List (List Literal)) (all kept : List LinearConstraint) (i : ℕ) (c : LinearConstraint) → slice_get all i ≡ Some c → Keeps cliques (take i all) kept → Keeps cliques (take (i + 1) all) (kept ++ c ∷ [])
keeps_added cliques all kept i c read keeps = subst (λ (front : List LinearConstraint). Keeps cliques front (kept ++ c ∷ [])) (sym (one_more all i c read)) (record {
  sound = λ a met. All-push (Meets a) kept c (keeps.sound a (all_left (Meets a) (take i all) (c ∷ []) met)) (All-head (Meets a) c [] (all_right (Meets a) (take i all) (c ∷ []) met));
  whole = λ a met say. All-push (Meets a) (take i all) c (keeps.whole a (all_left (Meets a) kept (c ∷ []) met) say) (All-head (Meets a) c [] (all_right (Meets a) kept (c ∷ []) met));
})

-- ---- the instance with its cliques

all_mapped : {X Y : Type 0} (P : Y → Type 0) (Q : X → Type 0) (f : X → Y) → ((x : X) → Q x → P (f x)) → (xs : List X) → All Q xs → All P (map f xs)
all_mapped P Q f each [] h = All-nil P
all_mapped P Q f each (x ∷ xs) h = All-cons P (f x) (map f xs) (each x (All-head Q x xs h)) (all_mapped P Q f each xs (All-tail Q x xs h))

pub says_same : (cliques : List (List Literal)) (p q : Problem) (kept : List LinearConstraint) → q.vars ≡ p.vars → q.objective ≡ p.objective → q.constraints ≡ kept ++ map all_but_one cliques
    → Keeps cliques p.constraints kept → All (IsClique p) cliques → SaysTheSame p q
says_same cliques p q kept vars objective constraints keeps are = record {
  vars = vars;
  objective = objective;
  feasible = λ a. (
    (λ met. let all = subst (All (Meets a)) constraints met in
        keeps.whole a (all_left (Meets a) kept (map all_but_one cliques) all) (say a cliques (all_right (Meets a) kept (map all_but_one cliques) all))),
    (λ met. subst (All (Meets a)) (sym constraints) (All-append (Meets a) kept (map all_but_one cliques) (keeps.sound a met)
        (all_mapped (Meets a) (IsClique p) all_but_one (λ lits clique. clique_met p lits a clique met) cliques are))),
  );
} where
  say : (a : List Bool) (xs : List (List Literal)) → All (Meets a) (map all_but_one xs) → MeetsCliques a xs
  say a [] h = All-nil (λ (lits : List Literal). Meets a (all_but_one lits))
  say a (x ∷ xs) h = All-cons (λ (lits : List Literal). Meets a (all_but_one lits)) x xs (All-head (Meets a) (all_but_one x) (map all_but_one xs) h) (say a xs (All-tail (Meets a) (all_but_one x) (map all_but_one xs) h))

-- a normal form of an instance is one of those that say the same
pub form_of_same : (p q : Problem) (f : NormalForm) → SaysTheSame p q → KeepsFeasible q f → KeepsFeasible p f
form_of_same p q f same keeps a = (λ met. (same.feasible a).0 ((keeps a).0 met), λ feasible. (keeps a).1 ((same.feasible a).1 feasible))
