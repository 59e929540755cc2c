-- An instance as it is written keeps the limits, and has its meaning.
use Rattle.std.proofs.Common.{◌≡◌, ℕ, ◌≤◌, List, [], ◌∷◌, length, get_or, map, Bool, true, false, cond, All, Some, inl, inr, ℤ, neg_ℤ, unsigned_abs, refl, sym, ap, subst, ◌∙◌, arith}
use Rattle.std.specs.Prelude.{slice_get}
use Rattle.std.specs.List.{AllByRecursion}
use Rattle.std.proofs.lemmas.Int.{ints}
use Rattle.std.proofs.lemmas.List.{length-map}
use Rattle.std.proofs.lemmas.List.Elements.{All-map, All-weaker}
use Rattle.std.proofs.lemmas.List.Sums.{sum_by-cons, sum_by_more_le}
use Rattle.std.proofs.lemmas.Option.{get_or_from_slice_get, slice_get_within}
use Rattle.pb_inst.specs.declared.constraints.Term.{Term}
use Rattle.pb_inst.specs.declared.constraints.Relation.{Relation}
use Rattle.pb_inst.specs.declared.constraints.Relation.TheVariants.{AtLeast, AtMost, Equal}
use Rattle.pb_inst.specs.declared.limits.TheConstants.{SUM_BOUND}
use Rattle.pb_inst.specs.Limits.{total_magnitude, constraint_magnitude, constraint_terms, AllVariablesWithin, IsProper}
use Rattle.pb_inst.specs.Meaning.{term_value, sum_value, Meets, Stands}
use Rattle.pb_inst.specs.Problem.{LinearConstraint, Problem}
use Rattle.pb_inst.proofs.SumLemmas.{term_value-true, term_value-false}
use Rattle.pb_inst.proofs.SumProofs.{sum_value-cons, literal_cases}
use Rattle.pb_read.proofs.Limits.{each_of}
use Rattle.pb_write.specs.Laws.{NeverAtMost, FeasibleAsWritten, CostAsWritten, VariablesAsWritten}
use Rattle.pb_write.specs.Turned.{turned_term, turned, is_at_most, written_constraint, written_problem}
use Rattle.pb_write.specs.Written.{IsClause}
use Rattle.pb_write.proofs.Meaning.{all_from_map}

-- what holds of a constraint and of the turned one holds of the one that is written
either : (P : LinearConstraint → Type 0) (b : Bool) (c d : LinearConstraint) → P c → P d → P (cond b c d)
either P true c d h k = h
either P false c d h k = k

as_either : (P : LinearConstraint → Type 0) (c : LinearConstraint) → P (turned c) → P c → P (written_constraint c)
as_either P c h k = either P (is_at_most c.relation) (turned c) c h k

-- ---- limits

pub coefficient_within : (ts : List Term) (i : ℕ) (t : Term) → slice_get ts i ≡ Some t → unsigned_abs t.coef ≤ total_magnitude ts
coefficient_within ts i t read =
    let more = sum_by_more_le (λ (u : Term). unsigned_abs u.coef) ts i t (slice_get_within ts i t read) in
    let size = ap (λ (u : Term). unsigned_abs u.coef) (get_or_from_slice_get ts i t t read) in
    omega arith

pub magnitude_within : (cs : List LinearConstraint) (i : ℕ) (c : LinearConstraint) → slice_get cs i ≡ Some c → All (λ (d : LinearConstraint). constraint_magnitude d ≤ SUM_BOUND) cs → constraint_magnitude c ≤ SUM_BOUND
magnitude_within cs i c read all = subst (λ (d : LinearConstraint). constraint_magnitude d ≤ SUM_BOUND) (get_or_from_slice_get cs i c c read) (all i c (slice_get_within cs i c read))

same_magnitude : (z : ℤ) → unsigned_abs (neg_ℤ z) ≡ unsigned_abs z
same_magnitude z = omega (arith, ints)

same_total : (ts : List Term) → total_magnitude (map turned_term ts) ≡ total_magnitude ts
same_total [] = refl
same_total (t ∷ ts) =
    let left = sum_by-cons (λ (u : Term). unsigned_abs u.coef) (turned_term t) (map turned_term ts) in
    let right = sum_by-cons (λ (u : Term). unsigned_abs u.coef) t ts in
    let here = same_magnitude t.coef in
    let rest = same_total ts in
    omega arith

turned_small : (c : LinearConstraint) → constraint_magnitude c ≤ SUM_BOUND → constraint_magnitude (turned c) ≤ SUM_BOUND
turned_small c small =
    let terms = same_total c.terms in
    let bound = same_magnitude c.bound in
    omega arith

same_count : (cs : List LinearConstraint) → constraint_terms (map written_constraint cs) ≡ constraint_terms cs
same_count [] = refl
same_count (c ∷ cs) =
    let left = sum_by-cons (λ (d : LinearConstraint). length d.terms) (written_constraint c) (map written_constraint cs) in
    let right = sum_by-cons (λ (d : LinearConstraint). length d.terms) c cs in
    let here : length (written_constraint c).terms ≡ length c.terms = as_either (λ (d : LinearConstraint). length d.terms ≡ length c.terms) c (length-map c.terms turned_term) refl in
    let rest = same_count cs in
    omega arith

abbrev IsOfVariables : ℕ → Term → Type 0
IsOfVariables n t = (1 ≤ t.lit.var) × (t.lit.var ≤ n)

pub written_proper : (p : Problem) → IsProper p → IsProper (written_problem p)
written_proper p proper = record {
  variable_count = proper.variable_count;
  limits = record {
    objective_sum = proper.limits.objective_sum;
    constraint_sums = All-map IsSmall written_constraint p.constraints (All-weaker IsSmall (λ c. IsSmall (written_constraint c)) (λ c small. as_either IsSmall c (turned_small c small) small) p.constraints proper.limits.constraint_sums);
    constraint_count = (let same = length-map p.constraints written_constraint in let few = proper.limits.constraint_count in omega arith);
    all_terms = (let same = same_count p.constraints in let few = proper.limits.all_terms in omega arith);
  };
  variables = record {
    in_objective = proper.variables.in_objective;
    in_constraints = All-map (IsOver p.vars) written_constraint p.constraints
        (All-weaker (IsOver p.vars) (λ c. IsOver p.vars (written_constraint c))
        (λ c over. as_either (IsOver p.vars) c (All-map (IsOfVariables p.vars) turned_term c.terms over) over) p.constraints proper.variables.in_constraints);
  };
}
  where
    IsSmall : LinearConstraint → Type 0
    IsSmall c = constraint_magnitude c ≤ SUM_BOUND

    IsOver : ℕ → LinearConstraint → Type 0
    IsOver n c = AllVariablesWithin n c.terms

-- ---- clauses are written as they are

clause_kept : (c : LinearConstraint) → IsClause c → written_constraint c ≡ c
clause_kept c h = subst (λ (d : LinearConstraint). written_constraint d ≡ d) (sym h) refl

clauses_kept : (cs : List LinearConstraint) → AllByRecursion IsClause cs → map written_constraint cs ≡ cs
clauses_kept [] h = refl
clauses_kept (c ∷ cs) h = ap (λ (d : LinearConstraint). d ∷ map written_constraint cs) (clause_kept c h.0) ∙ ap (λ (ds : List LinearConstraint). c ∷ ds) (clauses_kept cs h.1)

pub clausal_kept : (p : Problem) → All IsClause p.constraints → written_problem p ≡ p
clausal_kept p h = ap (λ (cs : List LinearConstraint). let q : Problem = record { vars = p.vars; objective = p.objective; constraints = cs } in q) (clauses_kept p.constraints (each_of IsClause p.constraints h))

-- ---- the meaning

turned_value : (a : List Bool) (t : Term) → term_value a (turned_term t) ≡ neg_ℤ (term_value a t)
turned_value a t = elim (literal_cases a t.lit) [
  | inl holds ↦ term_value-true a (turned_term t) holds ∙ ap neg_ℤ (sym (term_value-true a t holds))
  | inr fails ↦ term_value-false a (turned_term t) fails ∙ ap neg_ℤ (sym (term_value-false a t fails))
]

turned_sum : (a : List Bool) (ts : List Term) → sum_value a (map turned_term ts) ≡ neg_ℤ (sum_value a ts)
turned_sum a [] = refl
turned_sum a (t ∷ ts) =
    let here = turned_value a t in
    let rest = turned_sum a ts in
    let whole = sum_value-cons a t ts in
    let turned = sum_value-cons a (turned_term t) (map turned_term ts) in
    omega (arith, ints)

met_as_written : (a : List Bool) (c : LinearConstraint) → (Meets a (written_constraint c) → Meets a c) × (Meets a c → Meets a (written_constraint c))
met_as_written a c = by c.relation c.terms c.bound
  where
    by : (r : Relation) (ts : List Term) (b : ℤ) → (Meets a (written_constraint (record { terms = ts; relation = r; bound = b })) → Stands r (sum_value a ts) b) × (Stands r (sum_value a ts) b → Meets a (written_constraint (record { terms = ts; relation = r; bound = b })))
    by AtLeast ts b = (λ h. h, λ h. h)
    by AtMost ts b = let sum = turned_sum a ts in (λ h. omega (arith, ints), λ h. omega (arith, ints))
    by Equal ts b = (λ h. h, λ h. h)

never_at_most_of : (c : LinearConstraint) → (written_constraint c).relation ≡ AtMost → ⊥
never_at_most_of c = by c.relation c.terms c.bound
  where
    by : (r : Relation) (ts : List Term) (b : ℤ) → (written_constraint (record { terms = ts; relation = r; bound = b })).relation ≡ AtMost → ⊥
    by AtLeast ts b h = absurd cc
    by AtMost ts b h = absurd cc
    by Equal ts b h = absurd cc

-- ---- the laws

pub never_at_most : NeverAtMost
never_at_most p = All-map (λ (c : LinearConstraint). c.relation ≡ AtMost → ⊥) written_constraint p.constraints (λ k d within. never_at_most_of (get_or p.constraints k d))

pub feasible_as_written : FeasibleAsWritten
feasible_as_written p a = (
  λ h. All-weaker (λ c. Meets a (written_constraint c)) (Meets a) (λ c. (met_as_written a c).0) p.constraints (all_from_map (Meets a) written_constraint p.constraints h),
  λ h. All-map (Meets a) written_constraint p.constraints (All-weaker (Meets a) (λ c. Meets a (written_constraint c)) (λ c. (met_as_written a c).1) p.constraints h),
)

pub cost_as_written : CostAsWritten
cost_as_written p a = refl

pub variables_as_written : VariablesAsWritten
variables_as_written p = refl
