-- The instance with a piece's clauses keeps the limits, and has a text in each format that the instance has one in.
use Rattle.std.proofs.Common.{ℕ, ◌+◌, ◌<◌, ◌≤◌, List, [], ◌∷◌, ◌++◌, map, length, sym, subst, arith, All, unsigned_abs}
use Rattle.std.specs.Prelude.{flat_map, unwrap_or}
use Rattle.std.specs.List.{AllByRecursion}
use Rattle.std.proofs.lemmas.Grind.{flat_map-append}
use Rattle.std.proofs.lemmas.List.{length-map}
use Rattle.std.proofs.lemmas.List.Sums.{sum_by-append, sum_by-cons}
use Rattle.pb_inst.specs.Constraints.{unit_term, clause_constraint}
use Rattle.pb_inst.specs.declared.constraints.Term.{Term}
use Rattle.pb_inst.specs.declared.limits.TheConstants.{MAX_TERMS, SUM_BOUND}
use Rattle.pb_inst.specs.Limits.{total_magnitude, constraint_terms, IsProper}
use Rattle.pb_inst.specs.Literal.{Literal}
use Rattle.pb_inst.specs.Problem.{LinearConstraint, Problem}
use Rattle.pb_inst.proofs.SumLemmas.{total_magnitude-units}
use Rattle.pb_cubes.specs.Pieces.{AreWithin}
use Rattle.pb_read.proofs.Limits.{limits_from_proper, proper_from_limits, count_terms, all_append, all_front, all_back, each_of}
use Rattle.pb_write.specs.Pieces.{with_clauses, KeepsCounts}
use Rattle.pb_write.specs.Written.{HaveVariables}

abbrev flat : List LinearConstraint → List Term
flat cs = flat_map (λ (c : LinearConstraint). c.terms) cs

abbrev of_clauses : List (List Literal) → List LinearConstraint
of_clauses clauses = map clause_constraint clauses

abbrev IsOfVariables : ℕ → Term → Type 0
IsOfVariables n t = (0 < t.lit.var) × (t.lit.var ≤ n)

abbrev HasSmallSum : LinearConstraint → Type 0
HasSmallSum c = total_magnitude c.terms + unsigned_abs c.bound ≤ SUM_BOUND

abbrev IsPositive : Literal → Type 0
IsPositive l = 1 ≤ l.var

abbrev IsUpTo : ℕ → Literal → Type 0
IsUpTo n l = l.var ≤ n

literals_within : (n : ℕ) (lits : List Literal) → AllByRecursion IsPositive lits → AllByRecursion (IsUpTo n) lits → AllByRecursion (IsOfVariables n) (map unit_term lits)
literals_within n [] h k = tt
literals_within n (l ∷ lits) h k = ((let here = h.0 in omega arith, k.0), literals_within n lits h.1 k.1)

clauses_within : (n : ℕ) (clauses : List (List Literal)) → AllByRecursion (λ (lits : List Literal). All IsPositive lits) clauses → AllByRecursion (λ (lits : List Literal). All (IsUpTo n) lits) clauses
    → AllByRecursion (IsOfVariables n) (flat (of_clauses clauses))
clauses_within n [] h k = tt
clauses_within n (lits ∷ clauses) h k =
    all_append (IsOfVariables n) (map unit_term lits) (flat (of_clauses clauses)) (literals_within n lits (each_of IsPositive lits h.0) (each_of (IsUpTo n) lits k.0)) (clauses_within n clauses h.1 k.1)

clauses_small : (clauses : List (List Literal)) → constraint_terms (of_clauses clauses) ≤ MAX_TERMS → AllByRecursion HasSmallSum (of_clauses clauses)
clauses_small [] few = tt
clauses_small (lits ∷ clauses) few =
    let count = sum_by-cons (λ (c : LinearConstraint). length c.terms) (clause_constraint lits) (of_clauses clauses) in
    let units = length-map lits unit_term in
    let size = total_magnitude-units lits in
    (omega arith, clauses_small clauses (omega arith))

pub with_clauses_proper : (p : Problem) (clauses : List (List Literal)) → IsProper p → KeepsCounts (with_clauses p clauses) → HaveVariables clauses → AreWithin p.vars clauses → IsProper (with_clauses p clauses)
with_clauses_proper p clauses proper counts variables within =
    let limits = limits_from_proper p proper in
    let new : AllByRecursion (IsOfVariables p.vars) (flat (of_clauses clauses)) =
    clauses_within p.vars clauses (each_of (λ (lits : List Literal). All IsPositive lits) clauses variables) (each_of (λ (lits : List Literal). All (IsUpTo p.vars) lits) clauses within) in
    let old : AllByRecursion (IsOfVariables p.vars) (flat p.constraints) = all_back (IsOfVariables p.vars) (unwrap_or p.objective []) (flat p.constraints) limits.indices in
    let both : AllByRecursion (IsOfVariables p.vars) (flat (p.constraints ++ of_clauses clauses)) =
    subst (λ ts. AllByRecursion (IsOfVariables p.vars) ts) (sym (flat_map-append (λ (c : LinearConstraint). c.terms) p.constraints (of_clauses clauses))) (all_append (IsOfVariables p.vars) (flat p.constraints) (flat (of_clauses clauses)) old new) in
    let sum = sum_by-append (λ (c : LinearConstraint). length c.terms) p.constraints (of_clauses clauses) in
    let terms = counts.terms in
    proper_from_limits (with_clauses p clauses) (record {
      vars = limits.vars;
      indices = all_append (IsOfVariables p.vars) (unwrap_or p.objective []) (flat (p.constraints ++ of_clauses clauses)) (all_front (IsOfVariables p.vars) (unwrap_or p.objective []) (flat p.constraints) limits.indices) both;
      constraints = counts.constraints;
      terms = omega (arith, count_terms p.objective (p.constraints ++ of_clauses clauses));
      objective = limits.objective;
      sums = all_append HasSmallSum p.constraints (of_clauses clauses) limits.sums (clauses_small clauses (omega arith));
    })
