-- The limits of an instance, as facts on each element.
use Rattle.std.proofs.Common.{◌≡◌, ℕ, suc, ◌+◌, ◌≤◌, ◌<◌, List, [], ◌∷◌, ◌++◌, length, Some, None, Option, arith, refl, subst}
use Rattle.std.specs.Prelude.{unsigned_abs, unwrap_or, IfSome, All}
use Rattle.std.specs.Option.{ForSome, option_map_or}
use Rattle.std.specs.List.{flat_map, AllByRecursion}
use Rattle.std.proofs.lemmas.List.{length-append}
use Rattle.std.proofs.lemmas.List.Elements.{All-nil, All-cons}
use Rattle.std.proofs.lemmas.List.Concat.{length-flat_map}
use Rattle.pb_inst.specs.declared.constraints.Term.{Term}
use Rattle.pb_inst.specs.declared.limits.TheConstants.{MAX_VARS, MAX_CONSTRAINTS, MAX_TERMS, SUM_BOUND}
use Rattle.pb_inst.specs.Problem.{LinearConstraint, Problem}
use Rattle.pb_inst.specs.Limits.{total_magnitude, constraint_magnitude, constraint_terms, AllVariablesWithin, IsProper}
use Rattle.pb_read.specs.Terms.{all_terms}

module _ {X : Type 0} (P : X → Type 0) where
  pub all_append : (xs ys : List X) → AllByRecursion P xs → AllByRecursion P ys → AllByRecursion P (xs ++ ys)
  all_append [] ys h k = k
  all_append (x ∷ xs) ys h k = (h.0, all_append xs ys h.1 k)

  pub all_front : (xs ys : List X) → AllByRecursion P (xs ++ ys) → AllByRecursion P xs
  all_front [] ys h = tt
  all_front (x ∷ xs) ys h = (h.0, all_front xs ys h.1)

  pub all_back : (xs ys : List X) → AllByRecursion P (xs ++ ys) → AllByRecursion P ys
  all_back [] ys h = h
  all_back (x ∷ xs) ys h = all_back xs ys h.1

  pub all_map : (Q : X → Type 0) → ((x : X) → P x → Q x) → (xs : List X) → AllByRecursion P xs → AllByRecursion Q xs
  all_map Q f [] h = tt
  all_map Q f (x ∷ xs) h = (f x h.0, all_map Q f xs h.1)

  pub all_both : (Q : X → Type 0) → (xs : List X) → AllByRecursion P xs → AllByRecursion Q xs → AllByRecursion (λ x. P x × Q x) xs
  all_both Q [] h k = tt
  all_both Q (x ∷ xs) h k = ((h.0, k.0), all_both Q xs h.1 k.1)

  pub all_of : (xs : List X) → AllByRecursion P xs → All P xs
  all_of [] h = All-nil P
  all_of (x ∷ xs) h = All-cons P x xs h.0 (all_of xs h.1)

  pub each_of : (xs : List X) → All P xs → AllByRecursion P xs
  each_of [] h = tt
  each_of (x ∷ xs) h = (h 0 x (omega arith), each_of xs (λ k d below. h (suc k) d (omega arith)))

-- the index is from 1 to n
abbrev pub IsWithin : ℕ → Term → Type 0
IsWithin n t = (1 ≤ t.lit.var) × (t.lit.var ≤ n)

-- the limits, each on all terms or all constraints
pub record WithinLimits (i : Problem) : Type 0 where
  pub vars : i.vars ≤ MAX_VARS
  pub indices : AllByRecursion (λ (t : Term). (0 < t.lit.var) × (t.lit.var ≤ i.vars)) (all_terms i)
  pub constraints : length i.constraints ≤ MAX_CONSTRAINTS
  pub terms : length (all_terms i) ≤ MAX_TERMS
  pub objective : IfSome i.objective (λ ts. total_magnitude ts ≤ SUM_BOUND)
  pub sums : AllByRecursion (λ (c : LinearConstraint). total_magnitude c.terms + unsigned_abs c.bound ≤ SUM_BOUND) i.constraints

abbrev flat : List LinearConstraint → List Term
flat cs = flat_map (λ (c : LinearConstraint). c.terms) cs

abbrev OfTerms : ℕ → LinearConstraint → Type 0
OfTerms n c = AllVariablesWithin n c.terms

-- ---- from each to all

constraints_within : (n : ℕ) (cs : List LinearConstraint) → AllByRecursion (IsWithin n) (flat cs) → All (OfTerms n) cs
constraints_within n [] h = All-nil (OfTerms n)
constraints_within n (c ∷ cs) h =
    All-cons (OfTerms n) c cs (all_of (IsWithin n) c.terms (all_front (IsWithin n) c.terms (flat cs) h)) (constraints_within n cs (all_back (IsWithin n) c.terms (flat cs) h))

objective_within : (n : ℕ) (o : Option (List Term)) (rest : List Term) → AllByRecursion (IsWithin n) (unwrap_or o [] ++ rest) → ForSome o (λ terms. AllVariablesWithin n terms)
objective_within n None rest h = λ ts e. absurd cc
objective_within n (Some os) rest h = λ ts e. let same : os ≡ ts = cc in subst (λ (xs : List Term). AllVariablesWithin n xs) same (all_of (IsWithin n) os (all_front (IsWithin n) os rest h))

objective_sum : (o : Option (List Term)) → IfSome o (λ ts. total_magnitude ts ≤ SUM_BOUND) → option_map_or (λ terms. total_magnitude terms) o 0 ≤ SUM_BOUND
objective_sum None h = omega arith
objective_sum (Some ts) h = h

pub count_terms : (o : Option (List Term)) (cs : List LinearConstraint) → length (unwrap_or o [] ++ flat cs) ≡ option_map_or (λ (terms : List Term). length terms) o 0 + constraint_terms cs
count_terms None cs = omega (arith, length-flat_map (λ (c : LinearConstraint). c.terms) cs)
count_terms (Some ts) cs = omega (arith, length-append ts (flat cs), length-flat_map (λ (c : LinearConstraint). c.terms) cs)

abbrev HasSmallSum : LinearConstraint → Type 0
HasSmallSum c = constraint_magnitude c ≤ SUM_BOUND

pub proper_from_limits : (i : Problem) → WithinLimits i → IsProper i
proper_from_limits i h =
    let indices : AllByRecursion (IsWithin i.vars) (all_terms i) = all_map (λ (t : Term). (0 < t.lit.var) × (t.lit.var ≤ i.vars)) (IsWithin i.vars) (λ t x. (omega (arith, x.0), x.1)) (all_terms i) h.indices in
    record {
      variable_count = h.vars;
      limits = record {
        objective_sum = objective_sum i.objective h.objective;
        constraint_sums = all_of HasSmallSum i.constraints h.sums;
        constraint_count = h.constraints;
        all_terms = omega (arith, count_terms i.objective i.constraints, h.terms);
      };
      variables = record {
        in_objective = objective_within i.vars i.objective (flat i.constraints) indices;
        in_constraints = constraints_within i.vars i.constraints (all_back (IsWithin i.vars) (unwrap_or i.objective []) (flat i.constraints) indices);
      };
    }

-- ---- from all to each

within_constraints : (n : ℕ) (cs : List LinearConstraint) → AllByRecursion (OfTerms n) cs → AllByRecursion (IsWithin n) (flat cs)
within_constraints n [] h = tt
within_constraints n (c ∷ cs) h = all_append (IsWithin n) c.terms (flat cs) (each_of (IsWithin n) c.terms h.0) (within_constraints n cs h.1)

within_objective : (n : ℕ) (o : Option (List Term)) → ForSome o (λ terms. AllVariablesWithin n terms) → AllByRecursion (IsWithin n) (unwrap_or o [])
within_objective n None h = tt
within_objective n (Some ts) h = each_of (IsWithin n) ts (h ts refl)

sum_objective : (o : Option (List Term)) → option_map_or (λ terms. total_magnitude terms) o 0 ≤ SUM_BOUND → IfSome o (λ ts. total_magnitude ts ≤ SUM_BOUND)
sum_objective None h = tt
sum_objective (Some ts) h = h

pub limits_from_proper : (i : Problem) → IsProper i → WithinLimits i
limits_from_proper i h =
    let indices : AllByRecursion (IsWithin i.vars) (all_terms i) = all_append (IsWithin i.vars) (unwrap_or i.objective []) (flat i.constraints)
    (within_objective i.vars i.objective h.variables.in_objective) (within_constraints i.vars i.constraints (each_of (OfTerms i.vars) i.constraints h.variables.in_constraints)) in
    record {
      vars = h.variable_count;
      indices = all_map (IsWithin i.vars) (λ (t : Term). (0 < t.lit.var) × (t.lit.var ≤ i.vars)) (λ t x. (omega (arith, x.0), x.1)) (all_terms i) indices;
      constraints = h.limits.constraint_count;
      terms = omega (arith, count_terms i.objective i.constraints, h.limits.all_terms);
      objective = sum_objective i.objective h.limits.objective_sum;
      sums = each_of HasSmallSum i.constraints h.limits.constraint_sums;
    }
