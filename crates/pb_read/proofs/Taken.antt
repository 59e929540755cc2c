-- What the builder's steps say of a statement's faults.
use Rattle.std.proofs.Common.{◌≡◌, ◌<◌, ◌≤◌, refl, sym, ap, subst, ◌∙◌, List, [], ◌∷◌, ◌++◌, Bool, true, false, not, ◌||◌, ◌&&◌, Some, None, Option, length, arith, ltb, eqb, inl, inr}
use Rattle.std.specs.Prelude.{sum_by, count_by}
use Rattle.std.specs.List.{list_any}
use Rattle.std.proofs.lemmas.Bool.{or_cases, not-false, lt-ltb, false≢true}
use Rattle.pb_inst.specs.declared.constraints.Term.{Term}
use Rattle.pb_inst.specs.Problem.{LinearConstraint}
use Rattle.pb_inst.specs.declared.limits.TheConstants.{MAX_CONSTRAINTS, MAX_TERMS, SUM_BOUND}
use Rattle.pb_read.specs.declared.fault.ReadKind.{ReadKind}
use Rattle.pb_read.specs.declared.fault.ReadKind.TheVariants.{Unfinished, LateObjective, Syntax, NonLinear, BadVariable, TooLarge, TooMany}
use Rattle.pb_read.specs.Runs.{first_is, any_neighbours}
use Rattle.pb_read.specs.Refusal.{first_kind}
use Rattle.pb_read.specs.Places.{form_faults}
use Rattle.pb_read.specs.Building.{amount_kind}
use Rattle.pb_read.specs.Drafts.{Gathered, gathered}
use Rattle.pb_read.proofs.Drafting.{gathered_terms, gathered_constraint}
use Rattle.pb_read.specs.Opb.{Token, End, Min, Related, Number, Lit, Bad, objective_tokens, constraint_tokens, is_end, is_min, is_relation, is_literal, has_bad_index, size, both_literals, has_shape, is_objective, is_constraint, statement_faults}
use Rattle.pb_read.proofs.Spelled.{same_without, none_applies, constraint_back, objective_back}

-- ---- the table, test by test

full : (l s n v t m : Bool) → Option ReadKind
full l s n v t m = first_kind ((Unfinished, not true) ∷ (LateObjective, l) ∷ (Syntax, s) ∷ (NonLinear, n) ∷ (BadVariable, v) ∷ (TooLarge, t) ∷ (TooMany, m) ∷ [])

form_some : (l s n v t m : Bool) (k : ReadKind) → Some k ≡ first_kind ((LateObjective, l) ∷ (Syntax, s) ∷ (NonLinear, n) ∷ (BadVariable, v) ∷ []) → full l s n v t m ≡ Some k
unfolding full
form_some true s n v t m k h = sym h
form_some false true n v t m k h = sym h
form_some false false true v t m k h = sym h
form_some false false false true t m k h = sym h
form_some false false false false t m k h = absurd cc

form_none : (l s n v t m : Bool) → None ≡ first_kind ((LateObjective, l) ∷ (Syntax, s) ∷ (NonLinear, n) ∷ (BadVariable, v) ∷ []) → full l s n v t m ≡ amount_kind t m
unfolding full
form_none true s n v t m h = absurd cc
form_none false true n v t m h = absurd cc
form_none false false true v t m h = absurd cc
form_none false false false true t m h = absurd cc
form_none false false false false t m h = refl

abbrev pub is_many : List (List Token) → List Token → Bool
is_many earlier u = ltb MAX_CONSTRAINTS (sum_by (count_by is_relation) (earlier ++ u ∷ [])) || ltb MAX_TERMS (sum_by (count_by is_literal) (earlier ++ u ∷ []))

module _ (earlier : List (List Token)) (u : List Token) (first : Bool) (is_first : first ≡ eqb (length earlier) 0) (end : list_any is_end u ≡ true) where
  -- a fault of form is the statement's
  pub form_first : (k : ReadKind) → Some k ≡ first_kind (form_faults first u) → first_kind (statement_faults earlier u) ≡ Some k
  unfolding full statement_faults
  form_first k h = rw (end, ← is_first) (form_some (first_is is_min u && not first) (not (has_shape u)) (any_neighbours both_literals u) (list_any has_bad_index u) (ltb SUM_BOUND (sum_by size u)) (is_many earlier u) k h)

  -- with none of these, the faults of amount are left
  pub amounts : None ≡ first_kind (form_faults first u) → first_kind (statement_faults earlier u) ≡ amount_kind (ltb SUM_BOUND (sum_by size u)) (is_many earlier u)
  unfolding full statement_faults
  amounts h = rw (end, ← is_first) (form_none (first_is is_min u && not first) (not (has_shape u)) (any_neighbours both_literals u) (list_any has_bad_index u) (ltb SUM_BOUND (sum_by size u)) (is_many earlier u) h)

  pub too_large : None ≡ first_kind (form_faults first u) → SUM_BOUND < sum_by size u → first_kind (statement_faults earlier u) ≡ Some TooLarge
  unfolding statement_faults
  too_large h over = amounts h ∙ ap (λ t. amount_kind t (is_many earlier u)) (lt-ltb SUM_BOUND (sum_by size u) over)

-- ---- what the form says

pub record Formed (u : List Token) : Type 0 where
  pub shape : (is_objective u || is_constraint u) ≡ true
  pub indexed : list_any has_bad_index u ≡ false

pub formed : (first : Bool) (u : List Token) → None ≡ first_kind (form_faults first u) → Formed u
formed first u h =
    let f = none_applies (form_faults first u) (sym h) in
    let shaped : not (has_shape u) ≡ false = f.1.0 in
    let linear : any_neighbours both_literals u ≡ false = f.1.1.0 in
    let indexed : list_any has_bad_index u ≡ false = f.1.1.1.0 in
    record {
      shape = subst (λ (x : List Token). (is_objective x || is_constraint x) ≡ true) (same_without u linear) (not-false (has_shape u) shaped);
      indexed = indexed;
    }

no_constraint : (u : List Token) → first_is is_min u ≡ true → is_constraint u ≡ true → ⊥
no_constraint [] m h = false≢true m
no_constraint (Min ∷ ts) m h = false≢true h
no_constraint (End ∷ ts) m h = false≢true m
no_constraint (Related r ∷ ts) m h = false≢true m
no_constraint (Number n ∷ ts) m h = false≢true m
no_constraint (Lit l ∷ ts) m h = false≢true m
no_constraint (Bad ∷ ts) m h = false≢true m

no_objective : (u : List Token) → first_is is_min u ≡ false → is_objective u ≡ true → ⊥
no_objective [] m h = false≢true h
no_objective (Min ∷ ts) m h = false≢true (sym m)
no_objective (End ∷ ts) m h = false≢true h
no_objective (Related r ∷ ts) m h = false≢true h
no_objective (Number n ∷ ts) m h = false≢true h
no_objective (Lit l ∷ ts) m h = false≢true h
no_objective (Bad ∷ ts) m h = false≢true h

-- what was gathered of an objective without a fault of form or sum
pub drafted_objective : (u : List Token) → Formed u → first_is is_min u ≡ true → sum_by size u ≤ SUM_BOUND → u ≡ objective_tokens (gathered u).terms
drafted_objective u f m sum = elim (or_cases (is_objective u) (is_constraint u) f.shape) [ inl o ↦ by (objective_back u o) | inr c ↦ absurd (no_constraint u m c) ]
  where
    by : (ts : List Term) × (u ≡ objective_tokens ts) → u ≡ objective_tokens (gathered u).terms
    by (ts, is) =
        let same = gathered_terms ts (sym (ap (list_any has_bad_index) is) ∙ f.indexed) (omega (arith, sum, ap (sum_by size) is)) in
        is ∙ ap objective_tokens (sym same ∙ ap (λ (x : List Token). (gathered x).terms) (sym is))

-- the constraint that was gathered
abbrev pub drafted : Gathered → LinearConstraint
drafted d = record { terms = d.terms; relation = d.relation; bound = d.number }

pub drafted_constraint : (u : List Token) → Formed u → first_is is_min u ≡ false → sum_by size u ≤ SUM_BOUND → u ≡ constraint_tokens (drafted (gathered u))
drafted_constraint u f m sum = elim (or_cases (is_objective u) (is_constraint u) f.shape) [ inl o ↦ absurd (no_objective u m o) | inr c ↦ by (constraint_back u c) ]
  where
    by : (c : LinearConstraint) × (u ≡ constraint_tokens c) → u ≡ constraint_tokens (drafted (gathered u))
    by (c, is) =
        let same = gathered_constraint c (sym (ap (list_any has_bad_index) is) ∙ f.indexed) (omega (arith, sum, ap (sum_by size) is)) in
        is ∙ ap constraint_tokens (sym same ∙ ap (λ (x : List Token). drafted (gathered x)) (sym is))
