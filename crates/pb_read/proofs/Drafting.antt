-- What is gathered of a statement's tokens is what the definitions say of them.
use Rattle.std.proofs.Common.{◌≡◌, ◌+◌, ◌<◌, ◌≤◌, refl, sym, ap, ◌∙◌, List, [], ◌∷◌, ◌++◌, Bool, true, false, ◌||◌, ◌&&◌, Some, None, arith, cond, ℤ, append_assoc}
use Rattle.std.specs.Prelude.{sum_by, unsigned_abs, fold}
use Rattle.std.specs.List.{list_any, AllByRecursion}
use Rattle.std.proofs.lemmas.Bool.{le-ltb, ne_eqb}
use Rattle.std.proofs.lemmas.List.{append-nil}
use Rattle.std.proofs.lemmas.List.Sums.{sum_by-cons, fold-append}
use Rattle.pb_inst.specs.declared.limits.TheConstants.{MAX_VARS, SUM_BOUND}
use Rattle.pb_inst.specs.declared.constraints.Relation.{Relation}
use Rattle.pb_inst.specs.declared.constraints.Term.{Term}
use Rattle.pb_inst.specs.Literal.{Literal}
use Rattle.pb_inst.specs.Problem.{LinearConstraint}
use Rattle.pb_inst.specs.Limits.{total_magnitude}
use Rattle.pb_read.specs.declared.opb.form.Place.{Place}
use Rattle.pb_read.specs.declared.opb.form.Place.TheVariants.{Start, Terms, Coefficient, Literals, AfterRelation, AfterNumber, Whole, Wrong}
use Rattle.pb_read.specs.Runs.{first_is, any_neighbours}
use Rattle.pb_read.specs.Opb.{Token, End, Min, Related, Number, Lit, Bad, objective_tokens, constraint_tokens, is_min, is_literal, has_bad_index, size, both_literals}
use Rattle.pb_read.specs.Capped.{cap}
use Rattle.pb_read.specs.Places.{next_after_terms, next_place, is_start, place_after, form_faults}
use Rattle.pb_read.specs.Drafts.{Gathered, gather, gathered, blank_draft, within_bound, good_literal, with_literal, draft_faults}
use Rattle.pb_read.proofs.Places.{whole_is_shape}
use Rattle.pb_read.proofs.Spelled.{spelled, tail_of, IsIndex, indices_back, size_spelled, size_tail}

-- ---- one more token

pub gathered_none : gathered [] ≡ blank_draft
unfolding gathered
gathered_none = refl

pub gathered_more : (ts : List Token) (t : Token) → gathered (ts ++ t ∷ []) ≡ gather (gathered ts) t
unfolding gathered
gathered_more ts t = fold-append gather blank_draft ts (t ∷ [])

-- ---- where the tokens lead

place_of : (d : Gathered) (ts : List Token) → (fold gather d ts).place ≡ place_after d.place ts
place_of d [] = refl
place_of d (t ∷ ts) = place_of (gather d t) ts

not_start_after_terms : (o : Bool) (t : Token) → is_start (next_after_terms o t) ≡ false
not_start_after_terms true End = refl
not_start_after_terms false End = refl
not_start_after_terms true Min = refl
not_start_after_terms false Min = refl
not_start_after_terms true (Related r) = refl
not_start_after_terms false (Related r) = refl
not_start_after_terms true (Number n) = refl
not_start_after_terms false (Number n) = refl
not_start_after_terms true (Lit l) = refl
not_start_after_terms false (Lit l) = refl
not_start_after_terms true Bad = refl
not_start_after_terms false Bad = refl

not_start : (p : Place) (t : Token) → is_start (next_place p t) ≡ false
not_start Start End = refl
not_start Start Min = refl
not_start Start (Related r) = refl
not_start Start (Number n) = refl
not_start Start (Lit l) = refl
not_start Start Bad = refl
not_start (Terms o) t = not_start_after_terms o t
not_start (Coefficient o) End = refl
not_start (Coefficient o) Min = refl
not_start (Coefficient o) (Related r) = refl
not_start (Coefficient o) (Number n) = refl
not_start (Coefficient o) (Lit l) = refl
not_start (Coefficient o) Bad = refl
not_start (Literals o) (Lit l) = refl
not_start (Literals o) End = not_start_after_terms o End
not_start (Literals o) Min = not_start_after_terms o Min
not_start (Literals o) (Related r) = not_start_after_terms o (Related r)
not_start (Literals o) (Number n) = not_start_after_terms o (Number n)
not_start (Literals o) Bad = not_start_after_terms o Bad
not_start AfterRelation End = refl
not_start AfterRelation Min = refl
not_start AfterRelation (Related r) = refl
not_start AfterRelation (Number n) = refl
not_start AfterRelation (Lit l) = refl
not_start AfterRelation Bad = refl
not_start AfterNumber End = refl
not_start AfterNumber Min = refl
not_start AfterNumber (Related r) = refl
not_start AfterNumber (Number n) = refl
not_start AfterNumber (Lit l) = refl
not_start AfterNumber Bad = refl
not_start Whole t = refl
not_start Wrong t = refl

stays_begun : (p : Place) (ts : List Token) → is_start p ≡ false → is_start (place_after p ts) ≡ false
stays_begun p [] h = h
stays_begun p (t ∷ ts) h = stays_begun (next_place p t) ts (not_start p t)

pub starts_none : is_start (gathered []).place ≡ true
unfolding gathered
starts_none = refl

pub starts_some : (t : Token) (ts : List Token) → is_start (gathered (t ∷ ts)).place ≡ false
unfolding gathered
starts_some t ts = ap is_start (place_of blank_draft (t ∷ ts)) ∙ stays_begun (next_place Start t) ts (not_start Start t)

-- ---- flags

or_false : (b : Bool) → (b || false) ≡ b
or_false true = refl
or_false false = refl

or_assoc : (a b c : Bool) → ((a || b) || c) ≡ (a || (b || c))
or_assoc true b c = refl
or_assoc false b c = refl

objective_of : (d : Gathered) (ts : List Token) → (fold gather d ts).is_objective ≡ (d.is_objective || (is_start d.place && first_is is_min ts))
objective_of d [] = sym (or_false d.is_objective) ∙ ap (λ (b : Bool). d.is_objective || b) (sym (and_false (is_start d.place)))
  where
    and_false : (b : Bool) → (b && false) ≡ false
    and_false true = refl
    and_false false = refl
objective_of d (t ∷ ts) =
    let rest : (is_start (next_place d.place t) && first_is is_min ts) ≡ false = ap (λ (b : Bool). b && first_is is_min ts) (not_start d.place t) in
    objective_of (gather d t) ts ∙ ap (λ (b : Bool). (d.is_objective || (is_start d.place && is_min t)) || b) rest ∙ or_false (d.is_objective || (is_start d.place && is_min t))

index_of : (d : Gathered) (ts : List Token) → (fold gather d ts).has_bad_index ≡ (d.has_bad_index || list_any has_bad_index ts)
index_of d [] = sym (or_false d.has_bad_index)
index_of d (t ∷ ts) = index_of (gather d t) ts ∙ or_assoc d.has_bad_index (has_bad_index t) (list_any has_bad_index ts)

-- two neighbours among the tokens, of which the one before may be a literal
abbrev meets : Bool → List Token → Bool
meets literal ts = (literal && first_is is_literal ts) || any_neighbours both_literals ts

meets_more : (a b : Bool) (t : Token) (ts : List Token) → ((a || (b && is_literal t)) || meets (is_literal t) ts) ≡ (a || meets b (t ∷ ts))
meets_more a b t [] = or_assoc a (b && is_literal t) (meets (is_literal t) []) ∙ ap (λ (x : Bool). a || ((b && is_literal t) || x)) (last (is_literal t))
  where
    last : (x : Bool) → ((x && false) || false) ≡ false
    last true = refl
    last false = refl
meets_more a b t (u ∷ us) = or_assoc a (b && is_literal t) (meets (is_literal t) (u ∷ us)) ∙ ap (λ (x : Bool). a || ((b && is_literal t) || x)) (either (is_literal t && is_literal u) (any_neighbours both_literals (u ∷ us)))
  where
    either : (x y : Bool) → (x || y) ≡ cond x true y
    either true y = refl
    either false y = refl

product_of : (d : Gathered) (ts : List Token) → (fold gather d ts).has_product ≡ (d.has_product || meets d.after_literal ts)
product_of d [] = sym (or_false d.has_product) ∙ ap (λ (b : Bool). d.has_product || b) (sym (none d.after_literal))
  where
    none : (x : Bool) → ((x && false) || false) ≡ false
    none true = refl
    none false = refl
product_of d (t ∷ ts) = product_of (gather d t) ts ∙ meets_more d.has_product d.after_literal t ts

-- ---- the sum

sum_of : (d : Gathered) (ts : List Token) → cap (fold gather d ts).sum ≡ cap (d.sum + sum_by size ts)
sum_of d [] = omega arith
sum_of d (t ∷ ts) = omega (arith, sum_of (gather d t) ts, sum_by-cons size t ts)

sum_kept : (d : Gathered) (ts : List Token) → cap d.sum ≡ d.sum → cap (fold gather d ts).sum ≡ (fold gather d ts).sum
sum_kept d [] h = h
sum_kept d (t ∷ ts) h = sum_kept (gather d t) ts (omega arith)

-- ---- the whole statement

pub gathered_sum : (s : List Token) → (gathered s).sum ≡ cap (sum_by size s)
unfolding gathered
gathered_sum s = omega (arith, sum_of blank_draft s, sum_kept blank_draft s (omega arith))

pub gathered_objective : (s : List Token) → (gathered s).is_objective ≡ first_is is_min s
unfolding gathered
gathered_objective s = objective_of blank_draft s

-- the faults of form are those of what was gathered
pub same_faults : (first : Bool) (s : List Token) → draft_faults first (gathered s) ≡ form_faults first s
unfolding gathered
same_faults first s = rw (objective_of blank_draft s, place_of blank_draft s, whole_is_shape s, product_of blank_draft s, index_of blank_draft s) refl

-- ---- the terms

within : (n : ℤ) → unsigned_abs n ≤ SUM_BOUND → within_bound n ≡ n
within n h = rw (le-ltb SUM_BOUND (unsigned_abs n) h) refl

good : (l : Literal) → 0 < l.var → l.var ≤ MAX_VARS → has_bad_index (Lit l) ≡ false
good l some most = rw (ne_eqb l.var 0 (λ e. absurd (omega (arith, e, some))), le-ltb MAX_VARS l.var most) refl

-- the terms of an objective or a constraint are taken one by one
terms_of : (d : Gathered) (ts : List Term) (tail : List Token) → ((e : Gathered) → (fold gather e tail).terms ≡ e.terms) → AllByRecursion IsIndex ts → total_magnitude ts ≤ SUM_BOUND
    → (fold gather d (spelled ts tail)).terms ≡ d.terms ++ ts
terms_of d [] tail h index sum = h d ∙ sym (append-nil d.terms)
terms_of d (t ∷ ts) tail h index sum =
    let parts : total_magnitude (t ∷ ts) ≡ unsigned_abs t.coef + total_magnitude ts = sum_by-cons (λ (t : Term). unsigned_abs t.coef) t ts in
    let coef : within_bound t.coef ≡ t.coef = within t.coef (omega (arith, parts, sum)) in
    let literal : good_literal (Lit t.lit) ≡ Some t.lit = ap (λ (b : Bool). cond b None (Some t.lit)) (good t.lit index.0.0 index.0.1) in
    let pushed : with_literal (within_bound t.coef) d.terms (good_literal (Lit t.lit)) ≡ d.terms ++ t ∷ [] =
    ap (λ (n : ℤ). with_literal n d.terms (good_literal (Lit t.lit))) coef ∙ ap (with_literal t.coef d.terms) literal in
    terms_of (gather (gather d (Number t.coef)) (Lit t.lit)) ts tail h index.1 (omega (arith, parts, sum))
    ∙ ap (λ (xs : List Term). xs ++ ts) pushed ∙ append_assoc d.terms (t ∷ []) ts

ends_of : (d : Gathered) (ts : List Term) (r : Relation) (n : ℤ) → ((fold gather d (spelled ts (tail_of r n))).relation ≡ r) × ((fold gather d (spelled ts (tail_of r n))).number ≡ within_bound n)
ends_of d [] r n = (refl, refl)
ends_of d (t ∷ ts) r n = ends_of (gather (gather d (Number t.coef)) (Lit t.lit)) ts r n

pub gathered_terms : (ts : List Term) → list_any has_bad_index (objective_tokens ts) ≡ false → sum_by size (objective_tokens ts) ≤ SUM_BOUND → (gathered (objective_tokens ts)).terms ≡ ts
unfolding gathered
gathered_terms ts index sum =
    terms_of (gather blank_draft Min) ts (End ∷ []) (λ e. refl) (indices_back ts (End ∷ []) index) (omega (arith, sum, sum_by-cons size Min (spelled ts (End ∷ [])), size_spelled ts (End ∷ [])))

abbrev constraint_of : List Term → Relation → ℤ → LinearConstraint
constraint_of ts r n = record { terms = ts; relation = r; bound = n }

pub gathered_constraint : (c : LinearConstraint) → list_any has_bad_index (constraint_tokens c) ≡ false → sum_by size (constraint_tokens c) ≤ SUM_BOUND
    → constraint_of (gathered (constraint_tokens c)).terms (gathered (constraint_tokens c)).relation (gathered (constraint_tokens c)).number ≡ c
unfolding gathered
gathered_constraint c index sum =
    let total : sum_by size (constraint_tokens c) ≡ total_magnitude c.terms + unsigned_abs c.bound = omega (arith, size_spelled c.terms (tail_of c.relation c.bound), size_tail c.relation c.bound) in
    let terms = terms_of blank_draft c.terms (tail_of c.relation c.bound) (λ e. refl) (indices_back c.terms (tail_of c.relation c.bound) index) (omega (arith, total, sum)) in
    let end = ends_of blank_draft c.terms c.relation c.bound in
    let bound = end.1 ∙ within c.bound (omega (arith, total, sum)) in
    ap (λ (ts : List Term). constraint_of ts (fold gather blank_draft (constraint_tokens c)).relation (fold gather blank_draft (constraint_tokens c)).number) terms
    ∙ ap (λ (r : Relation). constraint_of c.terms r (fold gather blank_draft (constraint_tokens c)).number) end.0
    ∙ ap (λ (n : ℤ). constraint_of c.terms c.relation n) bound
