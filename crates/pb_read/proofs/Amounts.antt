-- The sums and counts of a statement, as the builder has them.
use Rattle.std.proofs.Common.{◌≡◌, ℕ, ◌+◌, refl, sym, ap, ◌∙◌, List, [], ◌∷◌, ◌++◌, Bool, true, false, not, ◌||◌, ◌&&◌, Some, None, Option, length, arith, ltb, eqb, map, append_assoc, max}
use Rattle.std.specs.Prelude.{sum_by, count_by, unsigned_abs, fold, unwrap_or}
use Rattle.std.specs.List.{flat_map}
use Rattle.std.proofs.lemmas.Bool.{false≢true, eqb-true}
use Rattle.std.proofs.lemmas.List.{append-nil, map-append, length-append}
use Rattle.std.proofs.lemmas.List.Sums.{sum_by-cons, sum_by-append}
use Rattle.std.proofs.lemmas.Grind.{flat_map-append}
use Rattle.pb_inst.specs.declared.constraints.Term.{Term}
use Rattle.pb_inst.specs.Problem.{LinearConstraint, Statements}
use Rattle.pb_inst.specs.Limits.{total_magnitude, term_count}
use Rattle.pb_inst.specs.declared.limits.TheConstants.{MAX_CONSTRAINTS, MAX_TERMS}
use Rattle.pb_read.specs.Runs.{first_is}
use Rattle.pb_read.specs.Terms.{greatest_index}
use Rattle.pb_read.specs.Refusal.{first_kind}
use Rattle.pb_read.specs.Places.{form_faults}
use Rattle.pb_read.specs.Building.{objective_part, statements_of, terms_of}
use Rattle.pb_read.specs.Opb.{Token, End, Min, objective_tokens, constraint_tokens, is_min, is_relation, is_literal, size}
use Rattle.pb_read.proofs.Spelled.{spelled, tail_of, size_spelled, size_tail, none_applies}
use Rattle.pb_read.proofs.OpbLaws.{all_relations, all_literals}
use Rattle.pb_read.proofs.Limits.{count_terms}
use Rattle.pb_read.proofs.Taken.{is_many}

pub statements_more : (o : Option (List Term)) (cs : List LinearConstraint) (c : LinearConstraint) → statements_of o cs ++ constraint_tokens c ∷ [] ≡ statements_of o (cs ++ c ∷ [])
statements_more o cs c = append_assoc (objective_part o) (map constraint_tokens cs) (constraint_tokens c ∷ []) ∙ ap (λ (x : List (List Token)). objective_part o ++ x) (sym (map-append constraint_tokens cs (c ∷ [])))

abbrev flat : List LinearConstraint → List Term
flat cs = flat_map (λ (c : LinearConstraint). c.terms) cs

terms_more : (o : Option (List Term)) (cs : List LinearConstraint) (c : LinearConstraint) → terms_of o (cs ++ c ∷ []) ≡ terms_of o cs ++ c.terms
terms_more o cs c =
    ap (λ (x : List Term). unwrap_or o [] ++ x) (flat_map-append (λ (c : LinearConstraint). c.terms) cs (c ∷ []) ∙ ap (λ (x : List Term). flat cs ++ x) (append-nil c.terms))
    ∙ sym (append_assoc (unwrap_or o []) (flat cs) c.terms)

greatest_from : (a b : ℕ) (ts : List Term) → fold (λ (n : ℕ) (t : Term). max n t.lit.var) (max a b) ts ≡ max a (fold (λ (n : ℕ) (t : Term). max n t.lit.var) b ts)
greatest_from a b [] = refl
greatest_from a b (t ∷ ts) = let e : max (max a b) t.lit.var ≡ max a (max b t.lit.var) = omega arith in ap (λ (n : ℕ). fold (λ (n : ℕ) (t : Term). max n t.lit.var) n ts) e ∙ greatest_from a (max b t.lit.var) ts

greatest_append : (b : ℕ) (xs ys : List Term) → fold (λ (n : ℕ) (t : Term). max n t.lit.var) b (xs ++ ys) ≡ fold (λ (n : ℕ) (t : Term). max n t.lit.var) (fold (λ (n : ℕ) (t : Term). max n t.lit.var) b xs) ys
greatest_append b [] ys = refl
greatest_append b (x ∷ xs) ys = greatest_append (max b x.lit.var) xs ys

pub greatest_more : (o : Option (List Term)) (cs : List LinearConstraint) (c : LinearConstraint) → greatest_index (terms_of o (cs ++ c ∷ [])) ≡ max (greatest_index (terms_of o cs)) (greatest_index c.terms)
greatest_more o cs c =
    let g : ℕ = greatest_index (terms_of o cs) in
    let e : g ≡ max g 0 = omega arith in
    ap greatest_index (terms_more o cs c) ∙ greatest_append 0 (terms_of o cs) c.terms ∙ ap (λ (n : ℕ). fold (λ (n : ℕ) (t : Term). max n t.lit.var) n c.terms) e ∙ greatest_from g 0 c.terms

-- ---- a constraint

pub constraint_sum : (c : LinearConstraint) → sum_by size (constraint_tokens c) ≡ total_magnitude c.terms + unsigned_abs c.bound
constraint_sum c = omega (arith, size_spelled c.terms (tail_of c.relation c.bound), size_tail c.relation c.bound)

pub constraint_many : (s : Statements) (c : LinearConstraint) → is_many (statements_of s.objective s.constraints) (constraint_tokens c) ≡ (ltb MAX_CONSTRAINTS (length s.constraints + 1) || ltb MAX_TERMS (term_count s + length c.terms))
constraint_many s c =
    let o = s.objective in
    let cs = s.constraints in
    let more = statements_more s.objective s.constraints c in
    let relations : sum_by (count_by is_relation) (statements_of s.objective s.constraints ++ constraint_tokens c ∷ []) ≡ length s.constraints + 1 =
    omega (arith, ap (sum_by (count_by is_relation)) more, all_relations s.objective (s.constraints ++ c ∷ []), length-append s.constraints (c ∷ [])) in
    let f : LinearConstraint → ℕ = λ c. length c.terms in
    let literals : sum_by (count_by is_literal) (statements_of s.objective s.constraints ++ constraint_tokens c ∷ []) ≡ term_count s + length c.terms =
    omega (arith, ap (sum_by (count_by is_literal)) more, all_literals s.objective (s.constraints ++ c ∷ []), count_terms s.objective (s.constraints ++ c ∷ []), sum_by-append f s.constraints (c ∷ []), sum_by-cons f c []) in
    rw (relations, literals) refl

-- ---- an objective

pub not_late : (first : Bool) (u : List Token) → None ≡ first_kind (form_faults first u) → first_is is_min u ≡ true → first ≡ true
not_late first u h m =
    let f = none_applies (form_faults first u) (sym h) in
    let late : (first_is is_min u && not first) ≡ false = f.0 in
    by first (ap (λ (b : Bool). b && not first) (sym m) ∙ late)
  where
    by : (b : Bool) → (true && not b) ≡ false → b ≡ true
    by true h = refl
    by false h = absurd (false≢true (sym h))

nothing_yet : (o : Option (List Term)) (cs : List LinearConstraint) → length (statements_of o cs) ≡ 0 → (o ≡ None) × (cs ≡ [])
nothing_yet None [] h = (refl, refl)
nothing_yet None (c ∷ cs) h = absurd (omega (arith, h))
nothing_yet (Some ts) cs h = absurd (omega (arith, h))

pub first_statement : (earlier : List (List Token)) (o : Option (List Term)) (cs : List LinearConstraint) (first : Bool) → earlier ≡ statements_of o cs → first ≡ eqb (length earlier) 0 → first ≡ true → (o ≡ None) × (cs ≡ [])
first_statement earlier o cs first same empty is = nothing_yet o cs (ap length (sym same) ∙ eqb-true (length earlier) 0 (sym empty ∙ is))

pub objective_sum : (ts : List Term) → sum_by size (objective_tokens ts) ≡ total_magnitude ts
objective_sum ts = omega (arith, sum_by-cons size Min (spelled ts (End ∷ [])), size_spelled ts (End ∷ []), sum_by-cons size End [])

pub objective_many : (ts : List Term) → is_many [] (objective_tokens ts) ≡ ltb MAX_TERMS (length ts + 0)
objective_many ts =
    let relations : sum_by (count_by is_relation) (objective_tokens ts ∷ []) ≡ 0 = all_relations (Some ts) [] in
    let literals : sum_by (count_by is_literal) (objective_tokens ts ∷ []) ≡ length ts + 0 = omega (arith, all_literals (Some ts) [], length-append ts []) in
    rw (relations, literals) refl
