-- A text spells one instance or has one refusal.
use Rattle.std.proofs.Common.{◌≡◌, ℕ, ◌+◌, ◌≤◌, ◌<◌, refl, sym, ap, subst, ◌∙◌, List, [], ◌∷◌, ◌++◌, Bool, true, false, not, cond, map, length, arith, ℤ, inl, inr, Some, None, Option, append_assoc, ltb, max}
use Rattle.std.specs.Prelude.{unsigned_abs, sum_by, count_by, ◌⊎◌, fold, unwrap_or, option_map, IfSome}
use Rattle.std.specs.List.{list_any, flat_map, AllByRecursion}
use Rattle.std.proofs.lemmas.Bool.{le-ltb, ltb-false}
use Rattle.std.proofs.lemmas.List.{append-nil, length-append}
use Rattle.std.proofs.lemmas.List.Folds.{flat_map-map}
use Rattle.std.proofs.lemmas.List.Sums.{sum_by-append, sum_by-cons}
use Rattle.pb_inst.specs.declared.constraints.Relation.{Relation}
use Rattle.pb_read.specs.declared.fault.ReadKind.{ReadKind}
use Rattle.pb_read.specs.declared.fault.ReadKind.TheVariants.{TooMany}
use Rattle.pb_read.specs.declared.fault.ReadFault.{ReadFault}
use Rattle.pb_read.specs.Runs.{pieces}
use Rattle.pb_read.specs.Text.{Placed, items}
use Rattle.pb_inst.specs.Literal.{Literal}
use Rattle.pb_inst.specs.declared.constraints.Term.{Term}
use Rattle.pb_inst.specs.Problem.{LinearConstraint, Problem}
use Rattle.pb_read.proofs.Limits.{WithinLimits, all_append, all_front, all_back, all_map, all_both, proper_from_limits, limits_from_proper}
use Rattle.pb_read.specs.Terms.{all_terms, greatest_index}
use Rattle.pb_inst.specs.Limits.{total_magnitude}
use Rattle.pb_inst.specs.declared.limits.TheConstants.{MAX_VARS, MAX_CONSTRAINTS, MAX_TERMS, SUM_BOUND}
use Rattle.pb_read.specs.Refusal.{first_kind, first_fault, at_line, ◌or_else◌}
use Rattle.pb_read.specs.Opb.{Token, End, Min, Related, Number, Lit, term_tokens, objective_tokens, constraint_tokens, instance_tokens, is_end, is_relation, is_literal, statement_faults, statements, statement_of, tokens, header, opb_refusal, OpbText}
use Rattle.pb_read.specs.Reading.{IsMemory}
use Rattle.pb_read.specs.Building.{statements_of, terms_of}
use Rattle.pb_read.proofs.Pieces.{pieces_cut, runs_flat, runs_map}
use Rattle.pb_read.proofs.Spelled.{spelled, tail_of, ends, relates, any_end, Good, Bounded, IsIndex, constraint_clear, objective_clear, no_fault_back, ReadsConstraint, literals_spelled, relations_spelled}

-- ---- the statements of what is spelled

constraint_cut : (c : LinearConstraint) (rest : List Token) → pieces is_end (constraint_tokens c ++ rest) ≡ constraint_tokens c ∷ pieces is_end rest
constraint_cut c rest =
    let ts : List Token = flat_map term_tokens c.terms in
    let front : List Token = ts ++ Related c.relation ∷ Number c.bound ∷ [] in
    let unended : list_any is_end front ≡ false = any_end c.terms (Related c.relation ∷ Number c.bound ∷ []) in
    let regroup : constraint_tokens c ++ rest ≡ front ++ End ∷ rest = append_assoc ts (tail_of c.relation c.bound) rest ∙ sym (append_assoc ts (Related c.relation ∷ Number c.bound ∷ []) (End ∷ rest)) in
    let whole : front ++ End ∷ [] ≡ constraint_tokens c = append_assoc ts (Related c.relation ∷ Number c.bound ∷ []) (End ∷ []) in
    ap (pieces is_end) regroup ∙ pieces_cut is_end front End rest unended refl ∙ ap (λ (s : List Token). s ∷ pieces is_end rest) whole

objective_cut : (ts : List Term) (rest : List Token) → pieces is_end (objective_tokens ts ++ rest) ≡ objective_tokens ts ∷ pieces is_end rest
objective_cut ts rest =
    let front : List Token = Min ∷ flat_map term_tokens ts in
    let unended : list_any is_end front ≡ false = ap (list_any is_end) (sym (append-nil (flat_map term_tokens ts))) ∙ any_end ts [] in
    ap (pieces is_end) (append_assoc front (End ∷ []) rest) ∙ pieces_cut is_end front End rest unended refl

constraints_cut : (cs : List LinearConstraint) → pieces is_end (flat_map constraint_tokens cs) ≡ map constraint_tokens cs
constraints_cut [] = refl
constraints_cut (c ∷ cs) = constraint_cut c (flat_map constraint_tokens cs) ∙ ap (λ (ss : List (List Token)). constraint_tokens c ∷ ss) (constraints_cut cs)

pieces_spelled : (o : Option (List Term)) (cs : List LinearConstraint) → pieces is_end (unwrap_or (option_map objective_tokens o) [] ++ flat_map constraint_tokens cs) ≡ statements_of o cs
pieces_spelled None cs = constraints_cut cs
pieces_spelled (Some ts) cs = objective_cut ts (flat_map constraint_tokens cs) ∙ ap (λ (ss : List (List Token)). objective_tokens ts ∷ ss) (constraints_cut cs)

items_of : (ps : List (List (Placed Token))) → items (map statement_of ps) ≡ map (map (λ (t : Placed Token). t.item)) ps
items_of [] = refl
items_of (p ∷ ps) = ap (λ (ss : List (List Token)). map (λ (t : Placed Token). t.item) p ∷ ss) (items_of ps)

-- the statements without their lines are the pieces of the tokens without their lines
pub statement_items : (text : List ℕ) → items (statements text) ≡ pieces is_end (items (tokens text))
statement_items text = items_of (pieces (λ (t : Placed Token). is_end t.item) (tokens text)) ∙ sym (runs_map (λ (t : Placed Token). t.item) (λ x y. not (is_end x)) (tokens text))

-- ---- what is spelled is not refused

Bounded-front : (a : List (List Token)) (s : List Token) (b : List (List Token)) → Bounded (a ++ s ∷ b) → Bounded (a ++ s ∷ [])
Bounded-front a s b h = record { relations = less (count_by is_relation) MAX_CONSTRAINTS h.relations; literals = less (count_by is_literal) MAX_TERMS h.literals }
  where
    less : (f : List Token → ℕ) (n : ℕ) → sum_by f (a ++ s ∷ b) ≤ n → sum_by f (a ++ s ∷ []) ≤ n
    less f n h = omega (arith, sum_by-append f a (s ∷ b), sum_by-append f a (s ∷ []), sum_by-cons f s b, sum_by-cons f s [], h)

abbrev step : ℕ → Option ReadKind → Option ReadFault → Option ReadFault
step n o r = at_line n o or_else r

-- no constraint is refused
constraints_clear : (earlier : List (List Token)) (cs : List LinearConstraint) (ss : List (Placed (List Token))) → items ss ≡ map constraint_tokens cs → AllByRecursion Good cs → Bounded (earlier ++ items ss) → first_fault statement_faults earlier ss ≡ None
constraints_clear earlier cs [] e good bounded = refl
constraints_clear earlier [] (s ∷ ss) e good bounded = absurd cc
constraints_clear earlier (c ∷ cs) (s ∷ ss) e good bounded =
    let head : s.item ≡ constraint_tokens c = cc in
    let tail : items ss ≡ map constraint_tokens cs = cc in
    let front : Bounded (earlier ++ s.item ∷ []) = Bounded-front earlier s.item (items ss) bounded in
    let clear : first_kind (statement_faults earlier s.item) ≡ None = rw head (constraint_clear earlier c good.0 (rw (← head) front)) in
    let bounded' : Bounded ((earlier ++ s.item ∷ []) ++ items ss) = rw append_assoc bounded in
    let rest : first_fault statement_faults (earlier ++ s.item ∷ []) ss ≡ None = constraints_clear (earlier ++ s.item ∷ []) cs ss tail good.1 bounded' in
    ap (λ (o : Option ReadKind). step s.line o (first_fault statement_faults (earlier ++ s.item ∷ []) ss)) clear ∙ rest

-- ---- what is not refused is spelled

first_parts : (n : ℕ) (o : Option ReadKind) (r : Option ReadFault) → step n o r ≡ None → (o ≡ None) × (r ≡ None)
first_parts n None r h = (refl, h)
first_parts n (Some k) r h = absurd cc

record ReadsAll (earlier : List (List Token)) (ss : List (Placed (List Token))) : Type 0 where
  pub constraints : List LinearConstraint
  pub same : items ss ≡ map constraint_tokens constraints
  pub good : AllByRecursion Good constraints
  pub bounded : Bounded (earlier ++ items ss)

read_on : (earlier : List (List Token)) (s : Placed (List Token)) (ss : List (Placed (List Token))) → ReadsConstraint earlier s.item → ReadsAll (earlier ++ s.item ∷ []) ss → ReadsAll earlier (s ∷ ss)
read_on earlier s ss one rest = record {
  constraints = one.constraint ∷ rest.constraints;
  same = ap (λ (x : List Token). x ∷ items ss) one.same ∙ ap (λ (x : List (List Token)). constraint_tokens one.constraint ∷ x) rest.same;
  good = (one.good, rest.good);
  bounded = rw append_assoc at rest.bounded;
}

not_first : (earlier : List (List Token)) (s : List Token) → length (earlier ++ s ∷ []) ≡ 0 → ⊥
not_first [] s e = absurd cc
not_first (x ∷ earlier) s e = absurd cc

-- after the first statement each is a constraint
constraints_back : (earlier : List (List Token)) (ss : List (Placed (List Token))) → (length earlier ≡ 0 → ⊥) → Bounded earlier → first_fault statement_faults earlier ss ≡ None → ReadsAll earlier ss
constraints_back earlier [] later bounded h = record { constraints = []; same = refl; good = tt; bounded = rw append-nil bounded }
constraints_back earlier (s ∷ ss) later bounded h =
    let p = first_parts s.line (first_kind (statement_faults earlier s.item)) (first_fault statement_faults (earlier ++ s.item ∷ []) ss) h in
    elim (no_fault_back earlier s.item p.0) [
      | inl o ↦ absurd (later o.first)
      | inr c ↦ read_on earlier s ss c (constraints_back (earlier ++ s.item ∷ []) ss (not_first earlier s.item) c.bounded p.1)
    ]

-- the parts of an instance
pub record Parts (ss : List (List Token)) : Type 0 where
  pub objective : Option (List Term)
  pub constraints : List LinearConstraint
  pub same : ss ≡ statements_of objective constraints
  pub indices : IfSome objective (λ ts. AllByRecursion IsIndex ts)
  pub sum : IfSome objective (λ ts. total_magnitude ts ≤ SUM_BOUND)
  pub good : AllByRecursion Good constraints
  pub bounded : Bounded ss

nothing_bounded : Bounded []
nothing_bounded = record { relations = omega arith; literals = omega arith }

pub parts_back : (ss : List (Placed (List Token))) → first_fault statement_faults [] ss ≡ None → Parts (items ss)
parts_back [] h = record { objective = None; constraints = []; same = refl; indices = tt; sum = tt; good = tt; bounded = nothing_bounded }
parts_back (s ∷ ss) h =
    let p = first_parts s.line (first_kind (statement_faults [] s.item)) (first_fault statement_faults (s.item ∷ []) ss) h in
    elim (no_fault_back [] s.item p.0) [
      | inl o ↦ let rest = constraints_back (s.item ∷ []) ss (not_first [] s.item) o.bounded p.1 in
          record { objective = Some o.terms; constraints = rest.constraints; same = ap (λ (x : List Token). x ∷ items ss) o.same ∙ ap (λ (x : List (List Token)). objective_tokens o.terms ∷ x) rest.same; indices = o.indices; sum = o.sum; good = rest.good; bounded = rest.bounded }
      | inr c ↦ let rest = read_on [] s ss c (constraints_back (s.item ∷ []) ss (not_first [] s.item) c.bounded p.1) in
          record { objective = None; constraints = rest.constraints; same = rest.same; indices = tt; sum = tt; good = rest.good; bounded = rest.bounded }
    ]

-- ---- counts

relation_count : (c : LinearConstraint) → count_by is_relation (constraint_tokens c) ≡ 1
relation_count c = relations_spelled c.terms (tail_of c.relation c.bound)

literal_count : (c : LinearConstraint) → count_by is_literal (constraint_tokens c) ≡ length c.terms
literal_count c = literals_spelled c.terms (tail_of c.relation c.bound) (relates c.relation c.bound)

relations_of : (cs : List LinearConstraint) → sum_by (count_by is_relation) (map constraint_tokens cs) ≡ length cs
relations_of [] = refl
relations_of (c ∷ cs) = omega (arith, sum_by-cons (count_by is_relation) (constraint_tokens c) (map constraint_tokens cs), relation_count c, relations_of cs)

literals_of : (cs : List LinearConstraint) → sum_by (count_by is_literal) (map constraint_tokens cs) ≡ length (flat_map (λ (c : LinearConstraint). c.terms) cs)
literals_of [] = refl
literals_of (c ∷ cs) = omega (arith, sum_by-cons (count_by is_literal) (constraint_tokens c) (map constraint_tokens cs), literal_count c, literals_of cs, length-append c.terms (flat_map (λ (c : LinearConstraint). c.terms) cs))

objective_literals : (ts : List Term) → count_by is_literal (objective_tokens ts) ≡ length ts
objective_literals ts = omega (arith, sum_by-cons (λ x. cond (is_literal x) 1 0) Min (spelled ts (End ∷ [])), literals_spelled ts (End ∷ []) ends)

objective_relations : (ts : List Term) → count_by is_relation (objective_tokens ts) ≡ 0
objective_relations ts = omega (arith, sum_by-cons (λ x. cond (is_relation x) 1 0) Min (spelled ts (End ∷ [])), relations_spelled ts (End ∷ []))

pub all_relations : (o : Option (List Term)) (cs : List LinearConstraint) → sum_by (count_by is_relation) (statements_of o cs) ≡ length cs
all_relations None cs = relations_of cs
all_relations (Some ts) cs = omega (arith, sum_by-cons (count_by is_relation) (objective_tokens ts) (map constraint_tokens cs), objective_relations ts, relations_of cs)

pub all_literals : (o : Option (List Term)) (cs : List LinearConstraint) → sum_by (count_by is_literal) (statements_of o cs) ≡ length (terms_of o cs)
all_literals None cs = literals_of cs
all_literals (Some ts) cs = omega (arith, sum_by-cons (count_by is_literal) (objective_tokens ts) (map constraint_tokens cs), objective_literals ts, literals_of cs, length-append ts (flat_map (λ (c : LinearConstraint). c.terms) cs))

-- ---- indices

each_below : (a : ℕ) (ts : List Term) → (a ≤ fold (λ (n : ℕ) (t : Term). max n t.lit.var) a ts) × AllByRecursion (λ (t : Term). t.lit.var ≤ fold (λ (n : ℕ) (t : Term). max n t.lit.var) a ts) ts
each_below a [] = (omega arith, tt)
each_below a (t ∷ ts) = let r = each_below (max a t.lit.var) ts in (omega (arith, r.0), (omega (arith, r.0), r.1))

greatest_below : (n a : ℕ) (ts : List Term) → a ≤ n → AllByRecursion IsIndex ts → n ≡ MAX_VARS → fold (λ (n : ℕ) (t : Term). max n t.lit.var) a ts ≤ n
greatest_below n a [] le h e = le
greatest_below n a (t ∷ ts) le h e = greatest_below n (max a t.lit.var) ts (omega (arith, h.0.1, e)) h.1 e

good_terms : (cs : List LinearConstraint) → AllByRecursion Good cs → AllByRecursion IsIndex (flat_map (λ (c : LinearConstraint). c.terms) cs)
good_terms [] h = tt
good_terms (c ∷ cs) h = all_append IsIndex c.terms (flat_map (λ (c : LinearConstraint). c.terms) cs) h.0.indices (good_terms cs h.1)

parts_indices : (o : Option (List Term)) (cs : List LinearConstraint) → IfSome o (λ ts. AllByRecursion IsIndex ts) → AllByRecursion Good cs → AllByRecursion IsIndex (terms_of o cs)
parts_indices None cs h k = good_terms cs k
parts_indices (Some ts) cs h k = all_append IsIndex ts (flat_map (λ (c : LinearConstraint). c.terms) cs) h (good_terms cs k)

-- ---- each text that is not refused spells an instance

abbrev made : ℕ → Option (List Term) → List LinearConstraint → Problem
made h o cs = record { vars = max h (greatest_index (terms_of o cs)); objective = o; constraints = cs }

flat_statements : (o : Option (List Term)) (cs : List LinearConstraint) → flat_map (λ (s : List Token). s) (statements_of o cs) ≡ unwrap_or (option_map objective_tokens o) [] ++ flat_map constraint_tokens cs
flat_statements None cs = flat_map-map (λ (s : List Token). s) constraint_tokens cs
flat_statements (Some ts) cs = ap (λ (x : List Token). objective_tokens ts ++ x) (flat_map-map (λ (s : List Token). s) constraint_tokens cs)

header_parts : (b : Bool) (r : Option ReadFault) → (cond b (at_line 1 (Some TooMany)) None or_else r) ≡ None → (b ≡ false) × (r ≡ None)
header_parts true r h = absurd cc
header_parts false r h = (refl, h)

pub header_clear : (b : Bool) (r : Option ReadFault) → b ≡ false → r ≡ None → (cond b (at_line 1 (Some TooMany)) None or_else r) ≡ None
header_clear true r e h = absurd cc
header_clear false r e h = h

made_limits : (h : ℕ) (ss : List (List Token)) → h ≤ MAX_VARS → (p : Parts ss) → WithinLimits (made h p.objective p.constraints)
made_limits h ss le p =
    let ts : List Term = terms_of p.objective p.constraints in
    let indices : AllByRecursion IsIndex ts = parts_indices p.objective p.constraints p.indices p.good in
    let below = greatest_below MAX_VARS 0 ts (omega arith) indices refl in
    record {
      vars = omega (arith, le, below);
      indices = all_map (λ (t : Term). IsIndex t × (t.lit.var ≤ greatest_index ts)) (λ (t : Term). (0 < t.lit.var) × (t.lit.var ≤ max h (greatest_index ts))) (λ t x. (x.0.0, omega (arith, x.1))) ts
          (all_both IsIndex (λ (t : Term). t.lit.var ≤ greatest_index ts) ts indices (each_below 0 ts).1);
      constraints = omega (arith, all_relations p.objective p.constraints, ap (sum_by (count_by is_relation)) p.same, p.bounded.relations);
      terms = omega (arith, all_literals p.objective p.constraints, ap (sum_by (count_by is_literal)) p.same, p.bounded.literals);
      objective = p.sum;
      sums = all_map Good (λ (c : LinearConstraint). total_magnitude c.terms + unsigned_abs c.bound ≤ SUM_BOUND) (λ c g. g.sum) p.constraints p.good;
    }

pub spells : (text : List ℕ) → opb_refusal text ≡ None → (i : Problem) × OpbText text i
unfolding opb_refusal
spells text h =
    let q = header_parts (ltb MAX_VARS (header text)) (first_fault statement_faults [] (statements text)) h in
    let p : Parts (items (statements text)) = parts_back (statements text) q.1 in
    let whole : items (tokens text) ≡ instance_tokens (made (header text) p.objective p.constraints) =
    sym (runs_flat (λ x y. not (is_end x)) (items (tokens text))) ∙ ap (flat_map (λ (s : List Token). s)) (sym (statement_items text) ∙ p.same) ∙ flat_statements p.objective p.constraints in
    (made (header text) p.objective p.constraints, record { spelled = whole; vars = refl; limits = proper_from_limits _ (made_limits (header text) (items (statements text)) (ltb-false MAX_VARS (header text) q.0) p) })

-- ---- a text that spells an instance is not refused

limits_good : (n : ℕ) (cs : List LinearConstraint) → n ≤ MAX_VARS → AllByRecursion (λ (t : Term). (0 < t.lit.var) × (t.lit.var ≤ n)) (flat_map (λ (c : LinearConstraint). c.terms) cs) → AllByRecursion (λ (c : LinearConstraint). total_magnitude c.terms + unsigned_abs c.bound ≤ SUM_BOUND) cs → AllByRecursion Good cs
limits_good n [] le h k = tt
limits_good n (c ∷ cs) le h k =
    let Q : Term → Type 0 = λ t. (0 < t.lit.var) × (t.lit.var ≤ n) in
    let mine = all_front Q c.terms (flat_map (λ (c : LinearConstraint). c.terms) cs) h in (
      record { indices = all_map Q IsIndex (λ t x. (x.0, omega (arith, x.1, le))) c.terms mine; sum = k.0 },
      limits_good n cs le (all_back Q c.terms (flat_map (λ (c : LinearConstraint). c.terms) cs) h) k.1,
    )

all_clear : (o : Option (List Term)) (cs : List LinearConstraint) (ss : List (Placed (List Token))) → items ss ≡ statements_of o cs → IfSome o (λ ts. AllByRecursion IsIndex ts) → IfSome o (λ ts. total_magnitude ts ≤ SUM_BOUND) → AllByRecursion Good cs → Bounded (items ss) → first_fault statement_faults [] ss ≡ None
all_clear o cs [] e indices sum good bounded = refl
all_clear None cs (s ∷ ss) e indices sum good bounded = constraints_clear [] cs (s ∷ ss) e good bounded
all_clear (Some ts) cs (s ∷ ss) e indices sum good bounded =
    let head : s.item ≡ objective_tokens ts = cc in
    let tail : items ss ≡ map constraint_tokens cs = cc in
    let front : Bounded (s.item ∷ []) = Bounded-front [] s.item (items ss) bounded in
    let clear : first_kind (statement_faults [] s.item) ≡ None = rw head (objective_clear ts indices sum (rw (← head) front)) in
    ap (λ (x : Option ReadKind). step s.line x (first_fault statement_faults (s.item ∷ []) ss)) clear ∙ constraints_clear (s.item ∷ []) cs ss tail good bounded

objective_indices : (n : ℕ) (o : Option (List Term)) (ts : List Term) → n ≤ MAX_VARS → AllByRecursion (λ (t : Term). (0 < t.lit.var) × (t.lit.var ≤ n)) (unwrap_or o [] ++ ts) → IfSome o (λ ts. AllByRecursion IsIndex ts)
objective_indices n None ts le h = tt
objective_indices n (Some os) ts le h =
    let Q : Term → Type 0 = λ t. (0 < t.lit.var) × (t.lit.var ≤ n) in
    all_map Q IsIndex (λ t x. (x.0, omega (arith, x.1, le))) os (all_front Q os ts h)

pub not_refused : (text : List ℕ) (i : Problem) → OpbText text i → opb_refusal text ≡ None
unfolding opb_refusal
not_refused text i h =
    let limits = limits_from_proper i h.limits in
    let Q : Term → Type 0 = λ t. (0 < t.lit.var) × (t.lit.var ≤ i.vars) in
    let e : items (statements text) ≡ statements_of i.objective i.constraints = statement_items text ∙ ap (pieces is_end) h.spelled ∙ pieces_spelled i.objective i.constraints in
    let bounded : Bounded (items (statements text)) = record {
      relations = omega (arith, all_relations i.objective i.constraints, ap (sum_by (count_by is_relation)) e, limits.constraints);
      literals = omega (arith, all_literals i.objective i.constraints, ap (sum_by (count_by is_literal)) e, limits.terms);
    } in
    let good = limits_good i.vars i.constraints limits.vars (all_back Q (unwrap_or i.objective []) (flat_map (λ (c : LinearConstraint). c.terms) i.constraints) limits.indices) limits.sums in
    header_clear (ltb MAX_VARS (header text)) _ (le-ltb MAX_VARS (header text) (omega (arith, h.vars, limits.vars)))
    (all_clear i.objective i.constraints (statements text) e (objective_indices i.vars i.objective (flat_map (λ (c : LinearConstraint). c.terms) i.constraints) limits.vars limits.indices) limits.objective good bounded)

-- ---- it spells one instance

abbrev with_term : ℤ → Literal → LinearConstraint → LinearConstraint
with_term n l c = record { terms = record { coef = n; lit = l } ∷ c.terms; relation = c.relation; bound = c.bound }

decode : List Token → Option LinearConstraint
decode (Related r ∷ Number n ∷ End ∷ []) = Some (record { terms = []; relation = r; bound = n })
decode (Number n ∷ Lit l ∷ ts) = option_map (with_term n l) (decode ts)
decode _ = None

decode_terms : List Token → List Term
decode_terms (Number n ∷ Lit l ∷ ts) = record { coef = n; lit = l } ∷ decode_terms ts
decode_terms _ = []

decode_spelled : (ts : List Term) (r : Relation) (n : ℤ) → decode (spelled ts (tail_of r n)) ≡ Some (record { terms = ts; relation = r; bound = n })
unfolding decode
decode_spelled [] r n = refl
decode_spelled (t ∷ ts) r n = ap (option_map (with_term t.coef t.lit)) (decode_spelled ts r n)

terms_spelled : (ts : List Term) → decode_terms (spelled ts (End ∷ [])) ≡ ts
unfolding decode_terms
terms_spelled [] = refl
terms_spelled (t ∷ ts) = ap (λ (x : List Term). t ∷ x) (terms_spelled ts)

-- the instance's parts, read back from its statements
objective_of : List (List Token) → Option (List Term)
objective_of ((Min ∷ ts) ∷ ss) = Some (decode_terms ts)
objective_of _ = None

constraints_of : List (List Token) → List (Option LinearConstraint)
constraints_of ((Min ∷ ts) ∷ ss) = map decode ss
constraints_of ss = map decode ss

map_decode : (cs : List LinearConstraint) → map decode (map constraint_tokens cs) ≡ map (λ c. Some c) cs
map_decode [] = refl
map_decode (c ∷ cs) = rw (decode_spelled c.terms c.relation c.bound, map_decode cs) refl

objective_again : (o : Option (List Term)) (cs : List LinearConstraint) → objective_of (statements_of o cs) ≡ o
unfolding objective_of
objective_again (Some ts) cs = ap (λ (x : List Term). Some x) (terms_spelled ts)
objective_again None [] = refl
objective_again None (c ∷ cs) = first c.terms
  where
    first : (ts : List Term) → objective_of (spelled ts (tail_of c.relation c.bound) ∷ map constraint_tokens cs) ≡ None
    first [] = refl
    first (t ∷ ts) = refl

constraints_again : (o : Option (List Term)) (cs : List LinearConstraint) → constraints_of (statements_of o cs) ≡ map (λ c. Some c) cs
unfolding constraints_of
constraints_again (Some ts) cs = map_decode cs
constraints_again None [] = refl
constraints_again None (c ∷ cs) = first c.terms ∙ map_decode (c ∷ cs)
  where
    first : (ts : List Term) → constraints_of (spelled ts (tail_of c.relation c.bound) ∷ map constraint_tokens cs) ≡ map decode (spelled ts (tail_of c.relation c.bound) ∷ map constraint_tokens cs)
    first [] = refl
    first (t ∷ ts) = refl

same_somes : (xs ys : List LinearConstraint) → map (λ c. Some c) xs ≡ map (λ c. Some c) ys → xs ≡ ys
same_somes [] [] e = refl
same_somes [] (y ∷ ys) e = absurd cc
same_somes (x ∷ xs) [] e = absurd cc
same_somes (x ∷ xs) (y ∷ ys) e =
    let tail : map (λ (c : LinearConstraint). Some c) xs ≡ map (λ (c : LinearConstraint). Some c) ys = cc in
    let rest = same_somes xs ys tail in
    cc

abbrev pub instance : ℕ → Option (List Term) → List LinearConstraint → Problem
instance n o cs = record { vars = n; objective = o; constraints = cs }

pub one_instance : (text : List ℕ) (i j : Problem) → OpbText text i → OpbText text j → i ≡ j
one_instance text i j h k =
    let e : statements_of i.objective i.constraints ≡ statements_of j.objective j.constraints =
    sym (pieces_spelled i.objective i.constraints) ∙ ap (pieces is_end) (sym h.spelled ∙ k.spelled) ∙ pieces_spelled j.objective j.constraints in
    let objective : i.objective ≡ j.objective = sym (objective_again i.objective i.constraints) ∙ ap objective_of e ∙ objective_again j.objective j.constraints in
    let constraints : i.constraints ≡ j.constraints = same_somes i.constraints j.constraints (sym (constraints_again i.objective i.constraints) ∙ ap constraints_of e ∙ constraints_again j.objective j.constraints) in
    let terms : all_terms i ≡ all_terms j = ap (λ (o : Option (List Term)). terms_of o i.constraints) objective ∙ ap (terms_of j.objective) constraints in
    let vars : i.vars ≡ j.vars = h.vars ∙ ap (λ (ts : List Term). max (header text) (greatest_index ts)) terms ∙ sym k.vars in
    ap (λ (n : ℕ). instance n i.objective i.constraints) vars ∙ ap (λ (o : Option (List Term)). instance j.vars o i.constraints) objective ∙ ap (instance j.vars j.objective) constraints

-- ---- what a builder has made of a text's statements is its instance

same_parts : (o p : Option (List Term)) (cs ds : List LinearConstraint) → statements_of o cs ≡ statements_of p ds → (o ≡ p) × (cs ≡ ds)
same_parts o p cs ds e = (
  sym (objective_again o cs) ∙ ap objective_of e ∙ objective_again p ds,
  same_somes cs ds (sym (constraints_again o cs) ∙ ap constraints_of e ∙ constraints_again p ds),
)

pub built_spells : (text : List ℕ) (o : Option (List Term)) (cs : List LinearConstraint) (n : ℕ) → ltb MAX_VARS (header text) ≡ false → first_fault statement_faults [] (statements text) ≡ None
    → items (statements text) ≡ statements_of o cs → n ≡ max (header text) (greatest_index (terms_of o cs)) → OpbText text (instance n o cs)
unfolding opb_refusal
built_spells text o cs n small clear same vars =
    let t = spells text (header_clear (ltb MAX_VARS (header text)) (first_fault statement_faults [] (statements text)) small clear) in
    let i : Problem = t.0 in
    let spelled : items (tokens text) ≡ instance_tokens i = t.1.spelled in
    let e : items (statements text) ≡ statements_of i.objective i.constraints = statement_items text ∙ ap (pieces is_end) spelled ∙ pieces_spelled i.objective i.constraints in
    let parts = same_parts i.objective o i.constraints cs (sym e ∙ same) in
    let terms : all_terms i ≡ terms_of o cs = ap (λ (x : Option (List Term)). terms_of x i.constraints) parts.0 ∙ ap (terms_of o) parts.1 in
    let n_is : i.vars ≡ n = t.1.vars ∙ ap (λ (ts : List Term). max (header text) (greatest_index ts)) terms ∙ sym vars in
    let whole : i ≡ instance n o cs = ap (λ (x : ℕ). instance x i.objective i.constraints) n_is ∙ ap (λ (x : Option (List Term)). instance n x i.constraints) parts.0 ∙ ap (instance n o) parts.1 in
    subst (OpbText text) whole t.1

pub refused_by_header : (text : List ℕ) → ltb MAX_VARS (header text) ≡ true → opb_refusal text ≡ Some (record { kind = TooMany; line = 1 })
unfolding opb_refusal
refused_by_header text h = rw h refl

pub refused_by_statement : (text : List ℕ) (f : ReadFault) → ltb MAX_VARS (header text) ≡ false → first_fault statement_faults [] (statements text) ≡ Some f → opb_refusal text ≡ Some f
unfolding opb_refusal
refused_by_statement text f small h = rw (small, h) refl

-- a text with a refusal spells nothing
pub spells_none : (text : List ℕ) (f : ReadFault) (i : Problem) → IsMemory f ⊎ (opb_refusal text ≡ Some f) → OpbText text i → IsMemory f
spells_none text f i (inl m) t = m
spells_none text f i (inr r) t = let n : opb_refusal text ≡ None = not_refused text i t in absurd cc

pub refusal_of : (text : List ℕ) (f : ReadFault) → ltb MAX_VARS (header text) ≡ false → IsMemory f ⊎ (first_fault statement_faults [] (statements text) ≡ Some f) → IsMemory f ⊎ (opb_refusal text ≡ Some f)
refusal_of text f small (inl m) = inl m
refusal_of text f small (inr r) = inr (refused_by_statement text f small r)
