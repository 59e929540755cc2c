-- What a statement without faults spells, and that what is spelled has no faults.
use Rattle.std.proofs.Common.{◌≡◌, ℕ, zero, suc, ◌+◌, ◌≤◌, ◌<◌, refl, ap, subst, ◌∙◌, List, [], ◌∷◌, ◌++◌, Bool, true, false, not, cond, ◌||◌, ◌&&◌, length, arith, ℤ, inl, inr, None, eqb, ltb}
use Rattle.std.specs.Prelude.{unsigned_abs, sum_by, count_by, ◌⊎◌}
use Rattle.std.specs.List.{list_any, flat_map, AllByRecursion}
use Rattle.std.proofs.lemmas.Bool.{or_parts, or_from, or_right, or_left, or_cases, and_left, not_from_true, le-ltb, ltb-false, ne_eqb, eqb-false, eqb-true, not-false, false≢true}
use Rattle.std.proofs.lemmas.List.Sums.{sum_by-cons}
use Rattle.pb_inst.specs.declared.constraints.Relation.{Relation}
use Rattle.pb_read.specs.declared.fault.ReadKind.{ReadKind}
use Rattle.pb_read.specs.Runs.{first_is, any_neighbours}
use Rattle.pb_inst.specs.Literal.{Literal}
use Rattle.pb_inst.specs.declared.constraints.Term.{Term}
use Rattle.pb_inst.specs.Problem.{LinearConstraint}
use Rattle.pb_inst.specs.Limits.{total_magnitude}
use Rattle.pb_inst.specs.declared.limits.TheConstants.{MAX_VARS, MAX_CONSTRAINTS, MAX_TERMS, SUM_BOUND}
use Rattle.pb_read.specs.Refusal.{Faults, first_kind}
use Rattle.pb_read.specs.Opb.{Token, End, Min, Related, Number, Lit, term_tokens, objective_tokens, constraint_tokens, is_end, is_min, is_relation, is_literal, has_bad_index, size, both_literals, without_products, are_terms_and_end, is_objective, is_constraint, has_shape, statement_faults}

-- terms and what stands after them
abbrev pub spelled : List Term → List Token → List Token
spelled ts tail = flat_map term_tokens ts ++ tail

abbrev pub tail_of : Relation → ℤ → List Token
tail_of r n = Related r ∷ Number n ∷ End ∷ []

-- ---- the tests at terms and what stands after them

pub any_end : (ts : List Term) (tail : List Token) → list_any is_end (spelled ts tail) ≡ list_any is_end tail
any_end [] tail = refl
any_end (t ∷ ts) tail = any_end ts tail

-- what stands after terms begins with no literal, and has no neighbouring literals
pub record Tail (tail : List Token) : Type 0 where
  pub first : (l : Literal) → first_is (both_literals (Lit l)) tail ≡ false
  pub linear : any_neighbours both_literals tail ≡ false
  pub no_literals : count_by is_literal tail ≡ 0
  pub good : list_any has_bad_index tail ≡ false

pub ends : Tail (End ∷ [])
ends = record { first = λ l. refl; linear = refl; no_literals = refl; good = refl }

pub relates : (r : Relation) (n : ℤ) → Tail (tail_of r n)
relates r n = record { first = λ l. refl; linear = refl; no_literals = refl; good = refl }

first_spelled : (l : Literal) (ts : List Term) (tail : List Token) → Tail tail → first_is (both_literals (Lit l)) (spelled ts tail) ≡ false
first_spelled l [] tail h = h.first l
first_spelled l (t ∷ ts) tail h = refl

linear_spelled : (ts : List Term) (tail : List Token) → Tail tail → any_neighbours both_literals (spelled ts tail) ≡ false
linear_spelled [] tail h = h.linear
linear_spelled (t ∷ ts) tail h = rw (first_spelled t.lit ts tail h, linear_spelled ts tail h) refl

cond_parts : (b x : Bool) → cond b true x ≡ false → (b ≡ false) × (x ≡ false)
cond_parts true x h = absurd cc
cond_parts false x h = (refl, h)

-- a statement with no product stays as it is
pub same_without : (s : List Token) → any_neighbours both_literals s ≡ false → without_products s ≡ s
same_without [] h = refl
same_without (t ∷ ts) h =
    let p = cond_parts (first_is (both_literals t) ts) (any_neighbours both_literals ts) h in
    rw (p.0, same_without ts p.1) refl

is_constraint_spelled : (ts : List Term) (r : Relation) (n : ℤ) → is_constraint (spelled ts (tail_of r n)) ≡ true
is_constraint_spelled [] r n = refl
is_constraint_spelled (t ∷ ts) r n = is_constraint_spelled ts r n

terms_and_end_spelled : (ts : List Term) → are_terms_and_end (spelled ts (End ∷ [])) ≡ true
terms_and_end_spelled [] = refl
terms_and_end_spelled (t ∷ ts) = terms_and_end_spelled ts

not_min : (ts : List Term) (r : Relation) (n : ℤ) → first_is is_min (spelled ts (tail_of r n)) ≡ false
not_min [] r n = refl
not_min (t ∷ ts) r n = refl

-- the index is from 1 up to the limit
abbrev pub IsIndex : Term → Type 0
IsIndex t = (0 < t.lit.var) × (t.lit.var ≤ MAX_VARS)

indices_spelled : (ts : List Term) (tail : List Token) → Tail tail → AllByRecursion IsIndex ts → list_any has_bad_index (spelled ts tail) ≡ false
indices_spelled [] tail h all = h.good
indices_spelled (t ∷ ts) tail h all =
    or_from _ _ (or_from _ _ (ne_eqb t.lit.var 0 (λ e. absurd (omega (arith, e, all.0.0)))) (le-ltb MAX_VARS t.lit.var all.0.1)) (indices_spelled ts tail h all.1)

pub indices_back : (ts : List Term) (tail : List Token) → list_any has_bad_index (spelled ts tail) ≡ false → AllByRecursion IsIndex ts
indices_back [] tail h = tt
indices_back (t ∷ ts) tail h =
    let p = or_parts (has_bad_index (Lit t.lit)) (list_any has_bad_index (spelled ts tail)) h in
    let q = or_parts (eqb t.lit.var 0) (ltb MAX_VARS t.lit.var) p.0 in
    let ne = eqb-false t.lit.var 0 q.0 in
    let le = ltb-false MAX_VARS t.lit.var q.1 in
    ((positive t.lit.var ne, le), indices_back ts tail p.1)
  where
    positive : (n : ℕ) → (n ≡ 0 → ⊥) → 0 < n
    positive zero ne = absurd (ne refl)
    positive (suc n) ne = omega arith

pub size_spelled : (ts : List Term) (tail : List Token) → sum_by size (spelled ts tail) ≡ total_magnitude ts + sum_by size tail
size_spelled [] tail = omega arith
size_spelled (t ∷ ts) tail =
    rw (sum_by-cons size (Number t.coef) (Lit t.lit ∷ spelled ts tail), sum_by-cons size (Lit t.lit) (spelled ts tail), sum_by-cons (λ (t : Term). unsigned_abs t.coef) t ts, size_spelled ts tail) (omega arith)

pub literals_spelled : (ts : List Term) (tail : List Token) → Tail tail → count_by is_literal (spelled ts tail) ≡ length ts
literals_spelled [] tail h = h.no_literals
literals_spelled (t ∷ ts) tail h =
    let f : Token → ℕ = λ x. cond (is_literal x) 1 0 in
    omega (arith, sum_by-cons f (Number t.coef) (Lit t.lit ∷ spelled ts tail), sum_by-cons f (Lit t.lit) (spelled ts tail), literals_spelled ts tail h)

pub relations_spelled : (ts : List Term) (tail : List Token) → count_by is_relation (spelled ts tail) ≡ count_by is_relation tail
relations_spelled [] tail = refl
relations_spelled (t ∷ ts) tail =
    let f : Token → ℕ = λ x. cond (is_relation x) 1 0 in
    omega (arith, sum_by-cons f (Number t.coef) (Lit t.lit ∷ spelled ts tail), sum_by-cons f (Lit t.lit) (spelled ts tail), relations_spelled ts tail)

-- ---- no faults

-- no fault of the table applies
abbrev pub NoneApplies : Faults → Type 0
NoneApplies fs = AllByRecursion (λ (f : ReadKind × Bool). f.1 ≡ false) fs

pub none_of : (fs : Faults) → NoneApplies fs → first_kind fs ≡ None
none_of [] h = refl
none_of (f ∷ fs) h = rw (h.0) (none_of fs h.1)

pub none_applies : (fs : Faults) → first_kind fs ≡ None → NoneApplies fs
none_applies [] h = tt
none_applies ((k, true) ∷ fs) h = absurd cc
none_applies ((k, false) ∷ fs) h = (refl, none_applies fs h)

-- the statements keep to the limits on counts
pub record Bounded (ss : List (List Token)) : Type 0 where
  pub relations : sum_by (count_by is_relation) ss ≤ MAX_CONSTRAINTS
  pub literals : sum_by (count_by is_literal) ss ≤ MAX_TERMS

-- a constraint keeps to its limits
pub record Good (c : LinearConstraint) : Type 0 where
  pub indices : AllByRecursion IsIndex c.terms
  pub sum : total_magnitude c.terms + unsigned_abs c.bound ≤ SUM_BOUND

pub size_tail : (r : Relation) (n : ℤ) → sum_by size (tail_of r n) ≡ unsigned_abs n
size_tail r n = omega (arith, sum_by-cons size (Related r) (Number n ∷ End ∷ []), sum_by-cons size (Number n) (End ∷ []), sum_by-cons size End [])

pub constraint_clear : (earlier : List (List Token)) (c : LinearConstraint) → Good c → Bounded (earlier ++ constraint_tokens c ∷ []) → first_kind (statement_faults earlier (constraint_tokens c)) ≡ None
unfolding statement_faults
constraint_clear earlier c good bounded =
    let tail : List Token = tail_of c.relation c.bound in
    let h : Tail tail = relates c.relation c.bound in
    let linear : any_neighbours both_literals (constraint_tokens c) ≡ false = linear_spelled c.terms tail h in
    let shape : is_constraint (without_products (constraint_tokens c)) ≡ true = ap is_constraint (same_without (constraint_tokens c) linear) ∙ is_constraint_spelled c.terms c.relation c.bound in
    none_of (statement_faults earlier (constraint_tokens c)) (
      not_from_true _ (any_end c.terms tail),
      (
        and_left _ _ (not_min c.terms c.relation c.bound),
        (
          not_from_true _ (or_right _ _ shape),
          (
            linear,
            (
              indices_spelled c.terms tail h good.indices,
              (
                le-ltb SUM_BOUND (sum_by size (constraint_tokens c)) (omega (arith, size_spelled c.terms tail, size_tail c.relation c.bound, good.sum)),
                (or_from _ _ (le-ltb MAX_CONSTRAINTS _ bounded.relations) (le-ltb MAX_TERMS _ bounded.literals), tt),
              ),
            ),
          ),
        ),
      ),
    )

pub objective_clear : (ts : List Term) → AllByRecursion IsIndex ts → total_magnitude ts ≤ SUM_BOUND → Bounded (objective_tokens ts ∷ []) → first_kind (statement_faults [] (objective_tokens ts)) ≡ None
unfolding statement_faults
objective_clear ts indices sum bounded =
    let linear : any_neighbours both_literals (spelled ts (End ∷ [])) ≡ false = linear_spelled ts (End ∷ []) ends in
    none_of (statement_faults [] (objective_tokens ts)) (
      not_from_true _ (any_end ts (End ∷ [])),
      (
        refl,
        (
          not_from_true _ (or_left _ _ (shape ts linear)),
          (
            first ts linear,
            (
              indices_spelled ts (End ∷ []) ends indices,
              (
                le-ltb SUM_BOUND (sum_by size (objective_tokens ts)) (omega (arith, sum_by-cons size Min (spelled ts (End ∷ [])), size_spelled ts (End ∷ []), sum_by-cons size End [], sum)),
                (or_from _ _ (le-ltb MAX_CONSTRAINTS _ bounded.relations) (le-ltb MAX_TERMS _ bounded.literals), tt),
              ),
            ),
          ),
        ),
      ),
    )
  where
    first : (ts : List Term) → any_neighbours both_literals (spelled ts (End ∷ [])) ≡ false → any_neighbours both_literals (objective_tokens ts) ≡ false
    first [] h = refl
    first (t ∷ ts) h = h

    shape : (ts : List Term) → any_neighbours both_literals (spelled ts (End ∷ [])) ≡ false → is_objective (without_products (objective_tokens ts)) ≡ true
    shape ts h = ap is_objective (same_without (objective_tokens ts) (first ts h)) ∙ terms_and_end_spelled ts

-- ---- what has no faults is spelled

pub constraint_back : (s : List Token) → is_constraint s ≡ true → (c : LinearConstraint) × (s ≡ constraint_tokens c)
constraint_back (Related r ∷ Number n ∷ End ∷ []) h = (record { terms = []; relation = r; bound = n }, refl)
constraint_back (Number n ∷ Lit l ∷ ts) h =
    let c = constraint_back ts h in
    (record { terms = record { coef = n; lit = l } ∷ c.0.terms; relation = c.0.relation; bound = c.0.bound }, ap (λ (x : List Token). Number n ∷ Lit l ∷ x) c.1)
constraint_back _ h = absurd (false≢true h)

terms_back : (s : List Token) → are_terms_and_end s ≡ true → (ts : List Term) × (s ≡ spelled ts (End ∷ []))
terms_back (End ∷ []) h = ([], refl)
terms_back (Number n ∷ Lit l ∷ s) h =
    let ts = terms_back s h in
    (record { coef = n; lit = l } ∷ ts.0, ap (λ (x : List Token). Number n ∷ Lit l ∷ x) ts.1)
terms_back _ h = absurd (false≢true h)

pub objective_back : (s : List Token) → is_objective s ≡ true → (ts : List Term) × (s ≡ objective_tokens ts)
objective_back (Min ∷ s) h = let ts = terms_back s h in (ts.0, ap (λ (x : List Token). Min ∷ x) ts.1)
objective_back _ h = absurd (false≢true h)

-- a statement with no fault is an objective in first place, or a constraint
pub record ReadsObjective (earlier : List (List Token)) (s : List Token) : Type 0 where
  pub terms : List Term
  pub same : s ≡ objective_tokens terms
  pub first : length earlier ≡ 0
  pub indices : AllByRecursion IsIndex terms
  pub sum : total_magnitude terms ≤ SUM_BOUND
  pub bounded : Bounded (earlier ++ s ∷ [])

pub record ReadsConstraint (earlier : List (List Token)) (s : List Token) : Type 0 where
  pub constraint : LinearConstraint
  pub same : s ≡ constraint_tokens constraint
  pub good : Good constraint
  pub bounded : Bounded (earlier ++ s ∷ [])

at_objective : (earlier : List (List Token)) (s : List Token) → is_objective s ≡ true → (first_is is_min s && not (eqb (length earlier) 0)) ≡ false → list_any has_bad_index s ≡ false → sum_by size s ≤ SUM_BOUND → Bounded (earlier ++ s ∷ []) → ReadsObjective earlier s
at_objective earlier s shape late index sum bounded =
    let ts = objective_back s shape in
    let e : s ≡ objective_tokens ts.0 = ts.1 in
    let late' : not (eqb (length earlier) 0) ≡ false = subst (λ (x : List Token). (first_is is_min x && not (eqb (length earlier) 0)) ≡ false) e late in
    let index' : list_any has_bad_index (objective_tokens ts.0) ≡ false = subst (λ (x : List Token). list_any has_bad_index x ≡ false) e index in
    let sum' : sum_by size (objective_tokens ts.0) ≤ SUM_BOUND = subst (λ (x : List Token). sum_by size x ≤ SUM_BOUND) e sum in
    record {
      terms = ts.0;
      same = e;
      first = eqb-true (length earlier) 0 (not-false _ late');
      indices = indices_back ts.0 (End ∷ []) index';
      sum = omega (arith, sum_by-cons size Min (spelled ts.0 (End ∷ [])), size_spelled ts.0 (End ∷ []), sum');
      bounded = bounded;
    }

at_constraint : (earlier : List (List Token)) (s : List Token) → is_constraint s ≡ true → list_any has_bad_index s ≡ false → sum_by size s ≤ SUM_BOUND → Bounded (earlier ++ s ∷ []) → ReadsConstraint earlier s
at_constraint earlier s shape index sum bounded =
    let c = constraint_back s shape in
    let e : s ≡ constraint_tokens c.0 = c.1 in
    let index' : list_any has_bad_index (constraint_tokens c.0) ≡ false = subst (λ (x : List Token). list_any has_bad_index x ≡ false) e index in
    let sum' : sum_by size (constraint_tokens c.0) ≤ SUM_BOUND = subst (λ (x : List Token). sum_by size x ≤ SUM_BOUND) e sum in
    record {
      constraint = c.0;
      same = e;
      good = record {
        indices = indices_back c.0.terms (tail_of c.0.relation c.0.bound) index';
        sum = omega (arith, size_spelled c.0.terms (tail_of c.0.relation c.0.bound), size_tail c.0.relation c.0.bound, sum');
      };
      bounded = bounded;
    }

pub no_fault_back : (earlier : List (List Token)) (s : List Token) → first_kind (statement_faults earlier s) ≡ None → ReadsObjective earlier s ⊎ ReadsConstraint earlier s
unfolding statement_faults
no_fault_back earlier s h =
    let f = none_applies (statement_faults earlier s) h in
    let late : (first_is is_min s && not (eqb (length earlier) 0)) ≡ false = f.1.0 in
    let shaped : not (has_shape s) ≡ false = f.1.1.0 in
    let linear : any_neighbours both_literals s ≡ false = f.1.1.1.0 in
    let indexed : list_any has_bad_index s ≡ false = f.1.1.1.1.0 in
    let summed : ltb SUM_BOUND (sum_by size s) ≡ false = f.1.1.1.1.1.0 in
    let counts = or_parts (ltb MAX_CONSTRAINTS (sum_by (count_by is_relation) (earlier ++ s ∷ []))) (ltb MAX_TERMS (sum_by (count_by is_literal) (earlier ++ s ∷ []))) f.1.1.1.1.1.1.0 in
    let bounded : Bounded (earlier ++ s ∷ []) = record { relations = ltb-false MAX_CONSTRAINTS _ counts.0; literals = ltb-false MAX_TERMS _ counts.1 } in
    let sum : sum_by size s ≤ SUM_BOUND = ltb-false SUM_BOUND (sum_by size s) summed in
    let same : without_products s ≡ s = same_without s linear in
    let shape : (is_objective s || is_constraint s) ≡ true = subst (λ (x : List Token). (is_objective x || is_constraint x) ≡ true) same (not-false (has_shape s) shaped) in
    elim (or_cases (is_objective s) (is_constraint s) shape) [
      | inl o ↦ inl (at_objective earlier s o late indexed sum bounded)
      | inr c ↦ inr (at_constraint earlier s c indexed sum bounded)
    ]
