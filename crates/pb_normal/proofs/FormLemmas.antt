-- What the calls that add rows promise, from what they were told.
use Rattle.std.proofs.Common.{◌≡◌, ℕ, ℤ, ◌≤◌, List, [], ◌∷◌, ◌++◌, length, map, min, sum_by, refl, sym, ◌∙◌, subst, arith, Bool, Option, Some, None, Result}
use Rattle.std.specs.Prelude.{OnOk, pos, ◌+ℤ◌, ◌-ℤ◌, ◌≤ℤ◌, neg_ℤ}
use Rattle.std.specs.List.{flat_map}
use Rattle.std.specs.Option.{option_map_or}
use Rattle.std.proofs.lemmas.Int.{ints}
use Rattle.std.proofs.lemmas.List.{append-nil}
use Rattle.std.proofs.lemmas.List.Sums.{sum_by-cons}
use Rattle.std.proofs.lemmas.Result.{on_ok_weaker}
use Rattle.pb_inst.specs.declared.limits.TheConstants.{MAX_CONSTRAINTS, SUM_BOUND}
use Rattle.pb_inst.specs.declared.constraints.Term.{Term}
use Rattle.pb_inst.specs.declared.constraints.Relation.{Relation}
use Rattle.pb_inst.specs.declared.constraints.Relation.TheVariants.{AtLeast, AtMost, Equal}
use Rattle.pb_inst.specs.Limits.{total_magnitude, AllVariablesWithin}
use Rattle.pb_inst.specs.Meaning.{sum_value}
use Rattle.pb_inst.specs.Problem.{LinearConstraint, Problem}
use Rattle.pb_normal.specs.declared.terms.PositiveTerm.{PositiveTerm}
use Rattle.pb_normal.specs.Exact.{Inequality, negated, inequalities_of, inequalities, objective_terms, IsNormalFormOf}
use Rattle.pb_normal.specs.Merging.{clipped, clipped_row, opposite, HasValueOf, IsSumOf, AreNormalRows, AddsRows}
use Rattle.pb_normal.specs.NormalForm.{PositiveRow, total_coefficient, ArePositiveTerms, IsNormal, KeepsCost}
use Rattle.pb_normal.proofs.ExactLemmas.{least_is, surplus_is}
use Rattle.pb_normal.proofs.RowLemmas.{one_normal_row, no_normal_row, IsSumOf-negated, AddsRows-append, row_count_is}

-- the sum is at least the bound
abbrev pub at_least : List Term → ℤ → Inequality
at_least terms bound = record { terms = terms; bound = bound }

pub adds_no_row : (n : ℕ) (terms : List Term) (base bound : ℤ) (positive : List PositiveTerm) (rows : List PositiveRow) → IsSumOf n terms base positive → bound ≤ℤ base → AddsRows n (at_least terms bound ∷ []) rows rows
adds_no_row n terms base bound positive rows sum low = record { own = []; added = sym (append-nil rows); rows = no_normal_row n (at_least terms bound) base positive sum low }

pub adds_one_row : (old new : List PositiveRow) (degree : ℕ) (seen positive : List PositiveTerm) (base bound : ℤ) → new ≡ old ++ clipped_row degree seen ∷ [] → seen ≡ positive → pos degree ≡ bound -ℤ base → 1 ≤ degree → degree ≤ SUM_BOUND → total_coefficient positive ≤ SUM_BOUND → (n : ℕ) (terms : List Term) → IsSumOf n terms base positive → AddsRows n (at_least terms bound ∷ []) old new
adds_one_row old new degree seen positive base bound added same is one low total n terms sum =
    let here : new ≡ old ++ clipped_row degree positive ∷ [] = subst (λ (ts : List PositiveTerm). new ≡ old ++ clipped_row degree ts ∷ []) same added in
    record { own = clipped_row degree positive ∷ []; added = here; rows = one_normal_row n (at_least terms bound) base positive degree sum is one low total }

pub adds_negated : {T E : Type 0} (r : Result T E) (old new : List PositiveRow) (base bound turned negated_base : ℤ) (positive negatives : List PositiveTerm) → OnOk r ((n : ℕ) (terms : List Term) → IsSumOf n terms negated_base negatives → AddsRows n (at_least terms turned ∷ []) old new) → turned ≡ neg_ℤ bound → negated_base ≡ neg_ℤ (base +ℤ pos (total_coefficient positive)) → negatives ≡ map opposite positive → OnOk r ((n : ℕ) (terms : List Term) → IsSumOf n terms base positive → AddsRows n (at_least (map negated terms) (neg_ℤ bound) ∷ []) old new)
adds_negated r old new base bound turned negated_base positive negatives rows turn base_is terms_are =
    on_ok_weaker r (λ (f : (n : ℕ) (terms : List Term) → IsSumOf n terms negated_base negatives → AddsRows n (at_least terms turned ∷ []) old new). λ (n : ℕ) (terms : List Term) (sum : IsSumOf n terms base positive).
    subst (λ (b : ℤ). AddsRows n (at_least (map negated terms) b ∷ []) old new) turn (f n (map negated terms) (IsSumOf-negated n terms base negated_base positive negatives sum base_is terms_are))) rows

-- what merging told of a constraint's terms
pub sum_of : (n : ℕ) (terms : List Term) (base : ℤ) (positive : List PositiveTerm) → HasValueOf terms base positive → ((m : ℕ) → AllVariablesWithin m terms → ArePositiveTerms m positive) → AllVariablesWithin n terms → IsSumOf n terms base positive
sum_of n terms base positive value shape within = record { value = value.value; variables = within; shape = shape n within }

-- rows for a relation
abbrev RowsFor : Relation → List Term → ℤ → List PositiveRow → List PositiveRow → Type 0
RowsFor relation terms bound old new = (n : ℕ) → AllVariablesWithin n terms → AddsRows n (inequalities_of relation terms bound) old new

abbrev AddsAtLeast : ℤ → ℤ → List PositiveTerm → List PositiveRow → List PositiveRow → Type 0
AddsAtLeast bound base positive old new = (n : ℕ) (terms : List Term) → IsSumOf n terms base positive → AddsRows n (at_least terms bound ∷ []) old new

abbrev AddsAtMost : ℤ → ℤ → List PositiveTerm → List PositiveRow → List PositiveRow → Type 0
AddsAtMost bound base positive old new = (n : ℕ) (terms : List Term) → IsSumOf n terms base positive → AddsRows n (at_least (map negated terms) (neg_ℤ bound) ∷ []) old new

-- the rows for the relation that the constraint has
pub relation_rows : {T E : Type 0} (r : Result T E) (relation : Relation) (c : LinearConstraint) (old new : List PositiveRow) (bound : ℤ) → c.relation ≡ relation → bound ≡ c.bound → OnOk r (RowsFor relation c.terms bound old new) → OnOk r ((n : ℕ) → AllVariablesWithin n c.terms → AddsRows n (inequalities c) old new)
relation_rows r relation c old new bound is same rows =
    on_ok_weaker r (λ (f : RowsFor relation c.terms bound old new). subst (λ (rel : Relation). RowsFor rel c.terms c.bound old new) (sym is) (subst (λ (b : ℤ). RowsFor relation c.terms b old new) same f)) rows

pub at_least_rows : {T E : Type 0} (r : Result T E) (old new : List PositiveRow) (terms : List Term) (base bound : ℤ) (positive : List PositiveTerm) → HasValueOf terms base positive → ((m : ℕ) → AllVariablesWithin m terms → ArePositiveTerms m positive) → OnOk r (AddsAtLeast bound base positive old new) → OnOk r (RowsFor AtLeast terms bound old new)
at_least_rows r old new terms base bound positive value shape rows = on_ok_weaker r (λ (f : AddsAtLeast bound base positive old new). λ (n : ℕ) (h : AllVariablesWithin n terms). f n terms (sum_of n terms base positive value shape h)) rows

pub at_most_rows : {T E : Type 0} (r : Result T E) (old new : List PositiveRow) (terms : List Term) (base bound : ℤ) (positive : List PositiveTerm) → HasValueOf terms base positive → ((m : ℕ) → AllVariablesWithin m terms → ArePositiveTerms m positive) → OnOk r (AddsAtMost bound base positive old new) → OnOk r (RowsFor AtMost terms bound old new)
at_most_rows r old new terms base bound positive value shape rows = on_ok_weaker r (λ (f : AddsAtMost bound base positive old new). λ (n : ℕ) (h : AllVariablesWithin n terms). f n terms (sum_of n terms base positive value shape h)) rows

pub equal_rows : {T E : Type 0} (r : Result T E) (old middle new : List PositiveRow) (terms : List Term) (base bound : ℤ) (positive : List PositiveTerm) → HasValueOf terms base positive → ((m : ℕ) → AllVariablesWithin m terms → ArePositiveTerms m positive) → AddsAtLeast bound base positive old middle → OnOk r (AddsAtMost bound base positive middle new) → OnOk r (RowsFor Equal terms bound old new)
equal_rows r old middle new terms base bound positive value shape least most = on_ok_weaker r (λ (f : AddsAtMost bound base positive middle new). λ (n : ℕ) (h : AllVariablesWithin n terms).
    let sum = sum_of n terms base positive value shape h in
    AddsRows-append n (at_least terms bound ∷ []) (at_least (map negated terms) (neg_ℤ bound) ∷ []) old middle new (least n terms sum) (f n terms sum)) most

-- the coefficients cut down to the degree
pub clipped_total-is : (degree : ℕ) (terms : List PositiveTerm) → total_coefficient (map (clipped degree) terms) ≡ sum_by (λ t. min t.coef degree) terms
clipped_total-is degree [] = refl
clipped_total-is degree (t ∷ terms) =
    let rest = clipped_total-is degree terms in
    let here = sum_by-cons (λ (u : PositiveTerm). u.coef) (clipped degree t) (map (clipped degree) terms) in
    let cut = sum_by-cons (λ (u : PositiveTerm). min u.coef degree) t terms in
    omega arith

-- the whole form
pub form_is : (p : Problem) (vars : ℕ) (rows : List PositiveRow) (base stored : ℤ) (merged objective seen : List PositiveTerm) → vars ≡ p.vars → AreNormalRows p.vars (flat_map inequalities p.constraints) rows → IsSumOf p.vars (objective_terms p) base merged → stored ≡ base → seen ≡ merged → objective ≡ [] ++ seen → IsNormalFormOf p (record { vars = vars; rows = rows; base = stored; objective = objective })
form_is p vars rows base stored merged objective seen same normal sum base_is see copy = rw (base_is, copy, see) (record {
  vars = same;
  rows = normal.exact;
  base = least_is p.vars (objective_terms p) base merged sum;
  objective = record { coefficients = sum.shape.coefficients; rising = sum.shape.rising; weights = surplus_is p.vars (objective_terms p) base merged sum };
})

pub form_is_normal : (p : Problem) (vars : ℕ) (rows : List PositiveRow) (base stored : ℤ) (merged objective seen : List PositiveTerm) → vars ≡ p.vars → length p.constraints ≤ MAX_CONSTRAINTS → AreNormalRows p.vars (flat_map inequalities p.constraints) rows → IsSumOf p.vars (objective_terms p) base merged → HasValueOf (objective_terms p) base merged → total_magnitude (objective_terms p) ≤ SUM_BOUND → stored ≡ base → seen ≡ merged → objective ≡ [] ++ seen → IsNormal (record { vars = vars; rows = rows; base = stored; objective = objective })
form_is_normal p vars rows base stored merged objective seen same few normal sum value bounded base_is see copy = rw (same, base_is, copy, see) (record {
  shape = record { rows = normal.positive; objective = sum.shape };
  limits = record {
    row_count = (let count = row_count_is p.constraints rows normal.exact in omega arith);
    rows = normal.small;
    lowest = (let low = value.lowest in omega arith);
    coefficients = (let total = value.total in omega arith);
    highest = (let high = value.highest in omega (arith, ints));
  };
})

objective_cost : (a : List Bool) (objective : Option (List Term)) → sum_value a (option_map_or (λ terms. terms) objective []) ≡ option_map_or (λ terms. sum_value a terms) objective (pos 0)
objective_cost a None = refl
objective_cost a (Some terms) = refl

pub form_keeps_cost : (p : Problem) (vars : ℕ) (rows : List PositiveRow) (base stored : ℤ) (merged objective seen : List PositiveTerm) → HasValueOf (objective_terms p) base merged → stored ≡ base → seen ≡ merged → objective ≡ [] ++ seen → KeepsCost p (record { vars = vars; rows = rows; base = stored; objective = objective })
form_keeps_cost p vars rows base stored merged objective seen value base_is see copy = rw (base_is, copy, see) (λ a. value.value a ∙ objective_cost a p.objective)
