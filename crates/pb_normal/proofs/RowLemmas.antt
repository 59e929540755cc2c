-- Rows that are added: what they mean, and that they keep their shape.
use Rattle.std.proofs.Common.{◌≡◌, ℕ, ℤ, zero, suc, ◌+◌, ◌*◌, ◌≤◌, List, [], ◌∷◌, ◌++◌, length, map, get_or, take, refl, sym, ◌∙◌, ap, subst, arith, Bool, All, slice_get, length-append}
use Rattle.std.specs.Prelude.{Some, pos, negsuc, ◌+ℤ◌, ◌-ℤ◌, ◌*ℤ◌, ◌≤ℤ◌, neg_ℤ}
use Rattle.std.specs.List.{flat_map}
use Rattle.std.proofs.lemmas.Int.{ints, clamps}
use Rattle.std.proofs.lemmas.List.{get_or-map, length-map, take_more, take_all, append_assoc, flat_map_more}
use Rattle.std.proofs.lemmas.List.Concat.{flat_map-cons}
use Rattle.std.proofs.lemmas.List.Elements.{All-nil, All-cons, All-head, All-tail, All-append, All-weaker, All-map}
use Rattle.std.proofs.lemmas.List.Sums.{sum_by-cons, sum_by_push, sum_by-take-le}
use Rattle.std.proofs.lemmas.Option.{get_or_from_slice_get, slice_get_within}
use Rattle.pb_inst.specs.Limits.{constraint_terms, AllVariablesWithin, IsProper}
use Rattle.pb_inst.specs.Meaning.{literal_value, term_value, sum_value, Stands, Meets}
use Rattle.pb_inst.specs.Problem.{LinearConstraint, Problem}
use Rattle.pb_inst.specs.declared.limits.TheConstants.{SUM_BOUND}
use Rattle.pb_inst.specs.declared.constraints.Term.{Term}
use Rattle.pb_inst.specs.declared.constraints.Relation.{Relation}
use Rattle.pb_inst.specs.declared.constraints.Relation.TheVariants.{AtLeast, AtMost, Equal}
use Rattle.pb_normal.specs.declared.TheConstants.{MAX_ROW_TERMS}
use Rattle.pb_normal.specs.declared.terms.PositiveTerm.{PositiveTerm}
use Rattle.pb_normal.specs.Exact.{Inequality, Holds, AlwaysHolds, negated, inequalities_of, inequalities, IsLeastValue, IsRowOf, AreRowsOf, none, no_row, one_row}
use Rattle.pb_normal.specs.Layout.{row_terms}
use Rattle.pb_normal.specs.NormalForm.{PositiveRow, positive_value, total_coefficient, MeetsRow, MeetsRows, ArePositiveTerms, IsPositiveRow, HasSmallSums}
use Rattle.pb_normal.specs.Merging.{clipped, clipped_row, opposite, IsSumOf, AreNormalRows, AddsRows}
use Rattle.pb_inst.proofs.SumProofs.{sum_value-cons}
use Rattle.pb_normal.proofs.NormalLemmas.{clip_keeps, value-le-one}
use Rattle.pb_normal.proofs.MergeLemmas.{IsWithin, HasCoefficient, opposite_values}
use Rattle.pb_normal.proofs.LiteralLemmas.{weight_of-clipped}
use Rattle.pb_normal.proofs.ExactLemmas.{least_is, surplus_is}

-- a change of coefficients and signs that keeps variables and positive coefficients
pub ArePositiveTerms-map : (n : ℕ) (f : PositiveTerm → PositiveTerm) → ((t : PositiveTerm) → (f t).lit.var ≡ t.lit.var) → ((t : PositiveTerm) → 1 ≤ t.coef → 1 ≤ (f t).coef) → (terms : List PositiveTerm) → ArePositiveTerms n terms → ArePositiveTerms n (map f terms)
ArePositiveTerms-map n f var coef terms h = record {
  coefficients = All-map HasCoefficient f terms (All-weaker HasCoefficient (λ t. HasCoefficient (f t)) coef terms h.coefficients);
  variables = All-map (IsWithin n) f terms (All-weaker (IsWithin n) (λ t. IsWithin n (f t)) (λ t w. subst (λ (v : ℕ). (1 ≤ v) × (v ≤ n)) (sym (var t)) w) terms h.variables);
  rising = λ i j d before less.
      (let count = length-map terms f in
      let low = ap (λ (t : PositiveTerm). t.lit.var) (get_or-map f terms i d d (omega arith)) in
      let high = ap (λ (t : PositiveTerm). t.lit.var) (get_or-map f terms j d d (omega arith)) in
      let rises = h.rising i j d before (omega arith) in
      let at_low = var (get_or terms i d) in
      let at_high = var (get_or terms j d) in
      omega arith);
}

-- clipping and negation of terms
pub total_coefficient-clipped : (degree : ℕ) (terms : List PositiveTerm) → total_coefficient (map (clipped degree) terms) ≤ total_coefficient terms
total_coefficient-clipped degree [] = omega arith
total_coefficient-clipped degree (t ∷ terms) =
    let rest = total_coefficient-clipped degree terms in
    let here = sum_by-cons (λ (u : PositiveTerm). u.coef) t terms in
    let cut = sum_by-cons (λ (u : PositiveTerm). u.coef) (clipped degree t) (map (clipped degree) terms) in
    omega arith

both_signs : (c v w : ℕ) → v + w ≡ 1 → c * v + c * w ≡ c
both_signs c zero w one = let at : w ≡ 1 = omega arith in rw at (omega arith)
both_signs c (suc zero) w one = let at : w ≡ 0 = omega arith in rw at (omega arith)
both_signs c (suc (suc v)) w one = absurd (omega arith)

-- the terms and the negated terms together have all coefficients
pub positive_value-opposite : (a : List Bool) (terms : List PositiveTerm) → positive_value a terms + positive_value a (map opposite terms) ≡ total_coefficient terms
positive_value-opposite a [] = refl
positive_value-opposite a (t ∷ terms) =
    let rest = positive_value-opposite a terms in
    let here = sum_by-cons (λ (u : PositiveTerm). u.coef * literal_value a u.lit) t terms in
    let turned = sum_by-cons (λ (u : PositiveTerm). u.coef * literal_value a u.lit) (opposite t) (map opposite terms) in
    let all = sum_by-cons (λ (u : PositiveTerm). u.coef) t terms in
    let one = both_signs t.coef (literal_value a t.lit) (literal_value a (opposite t).lit) (opposite_values a t.lit (opposite t).lit refl refl) in
    omega arith

meets_clipped : (a : List Bool) (degree : ℕ) (terms : List PositiveTerm) → (MeetsRow a (clipped_row degree terms) → degree ≤ positive_value a terms) × (degree ≤ positive_value a terms → MeetsRow a (clipped_row degree terms))
meets_clipped a degree terms =
    let keeps = clip_keeps a degree terms in
    let low = keeps.0 in
    let high = keeps.1 in
    (λ h. omega arith, λ h. omega arith)

-- all of one
all_of_one : {X : Type 0} (P : X → Type 0) (x : X) → P x → All P (x ∷ [])
all_of_one P x h = All-cons P x [] h (All-nil P)

row_is : (n : ℕ) (i : Inequality) (base : ℤ) (positive : List PositiveTerm) (degree : ℕ) → IsSumOf n i.terms base positive → pos degree ≡ i.bound -ℤ base → 1 ≤ degree → IsRowOf i (clipped_row degree positive)
row_is n i base positive degree sum is one =
    let cut : ArePositiveTerms n (map (clipped degree) positive) = ArePositiveTerms-map n (clipped degree) (λ t. refl) (λ t c. omega arith) positive sum.shape in
    let same : base ≡ i.bound -ℤ pos degree = omega (arith, ints) in
    record {
      least = subst (λ (z : ℤ). IsLeastValue i.terms z) same (least_is n i.terms base positive sum);
      degree = one;
      terms = record {
        coefficients = cut.coefficients;
        rising = cut.rising;
        weights = λ l.
            (let whole = surplus_is n i.terms base positive sum l in
            let least = weight_of-clipped l degree positive sum.shape.rising in
            omega (arith, ints, clamps));
      };
    }

pub one_normal_row : (n : ℕ) (i : Inequality) (base : ℤ) (positive : List PositiveTerm) (degree : ℕ) → IsSumOf n i.terms base positive → pos degree ≡ i.bound -ℤ base → 1 ≤ degree → degree ≤ SUM_BOUND → total_coefficient positive ≤ SUM_BOUND → AreNormalRows n (i ∷ []) (clipped_row degree positive ∷ [])
one_normal_row n i base positive degree sum is one low total =
    let row : PositiveRow = clipped_row degree positive in
    let cut = total_coefficient-clipped degree positive in
    let shape : IsPositiveRow n row = record {
      degree = one;
      terms = ArePositiveTerms-map n (clipped degree) (λ t. refl) (λ t c. omega arith) positive sum.shape;
      clipped = All-map (λ (t : PositiveTerm). t.coef ≤ degree) (clipped degree) positive (λ k d less. omega arith);
    } in
    record {
      exact = one_row i row [] [] (row_is n i base positive degree sum is one) none;
      means = λ a.
          (let keeps = meets_clipped a degree positive in
          let value = sum.value a in (
            λ h. all_of_one (λ j. Holds a j) i (let reached = keeps.0 (All-head (λ r. MeetsRow a r) row [] h) in omega (arith, ints)),
            λ h. all_of_one (λ r. MeetsRow a r) row (let holds = All-head (λ j. Holds a j) i [] h in keeps.1 (omega (arith, ints))),
          ));
      positive = all_of_one (λ r. IsPositiveRow n r) row shape;
      small = all_of_one HasSmallSums row (low, omega arith);
    }

pub no_normal_row : (n : ℕ) (i : Inequality) (base : ℤ) (positive : List PositiveTerm) → IsSumOf n i.terms base positive → i.bound ≤ℤ base → AreNormalRows n (i ∷ []) []
no_normal_row n i base positive sum low =
    let always : AlwaysHolds i = λ a. (let value = sum.value a in omega (arith, ints)) in
    record {
      exact = no_row i [] [] always none;
      means = λ a. (λ _. all_of_one (λ j. Holds a j) i (always a), λ _. All-nil (λ r. MeetsRow a r));
      positive = All-nil (λ r. IsPositiveRow n r);
      small = All-nil HasSmallSums;
    }

-- rows of inequalities, one after the other
split_all : {X : Type 0} (P : X → Type 0) (xs ys : List X) → All P (xs ++ ys) → All P xs × All P ys
split_all P [] ys h = (All-nil P, h)
split_all P (x ∷ xs) ys h =
    let rest = split_all P xs ys (All-tail P x (xs ++ ys) h) in
    (All-cons P x xs (All-head P x (xs ++ ys) h) rest.0, rest.1)

AreRowsOf-append : (is js : List Inequality) (rows more : List PositiveRow) → AreRowsOf is rows → AreRowsOf js more → AreRowsOf (is ++ js) (rows ++ more)
AreRowsOf-append _ js _ more none second = second
AreRowsOf-append _ js _ more (no_row i is rows always first) second = no_row i (is ++ js) (rows ++ more) always (AreRowsOf-append is js rows more first second)
AreRowsOf-append _ js _ more (one_row i row is rows here first) second = one_row i row (is ++ js) (rows ++ more) here (AreRowsOf-append is js rows more first second)

pub AreNormalRows-append : (n : ℕ) (is js : List Inequality) (rows more : List PositiveRow) → AreNormalRows n is rows → AreNormalRows n js more → AreNormalRows n (is ++ js) (rows ++ more)
AreNormalRows-append n is js rows more first second = record {
  exact = AreRowsOf-append is js rows more first.exact second.exact;
  means = λ a. (
    λ h. (let parts = split_all (λ r. MeetsRow a r) rows more h in All-append (λ i. Holds a i) is js ((first.means a).0 parts.0) ((second.means a).0 parts.1)),
    λ h. (let parts = split_all (λ i. Holds a i) is js h in All-append (λ r. MeetsRow a r) rows more ((first.means a).1 parts.0) ((second.means a).1 parts.1)),
  );
  positive = All-append (λ r. IsPositiveRow n r) rows more first.positive second.positive;
  small = All-append HasSmallSums rows more first.small second.small;
}

pub no_normal_rows : (n : ℕ) (rows : List PositiveRow) → rows ≡ [] → AreNormalRows n [] rows
no_normal_rows n rows empty = rw empty (record {
  exact = none;
  means = λ a. (λ _. All-nil (λ i. Holds a i), λ _. All-nil (λ r. MeetsRow a r));
  positive = All-nil (λ r. IsPositiveRow n r);
  small = All-nil HasSmallSums;
})

pub AddsRows-append : (n : ℕ) (is js : List Inequality) (old middle new : List PositiveRow) → AddsRows n is old middle → AddsRows n js middle new → AddsRows n (is ++ js) old new
AddsRows-append n is js old middle new first second = record {
  own = first.own ++ second.own;
  added = second.added ∙ (ap (λ (rows : List PositiveRow). rows ++ second.own) first.added ∙ append_assoc old first.own second.own);
  rows = AreNormalRows-append n is js first.own second.own first.rows second.rows;
}

-- the negated sum
negated_value : (a : List Bool) (t : Term) → term_value a (negated t) ≡ neg_ℤ (term_value a t)
negated_value a t = by_value t.coef (literal_value a t.lit) (value-le-one a t.lit)
  where
    by_value : (c : ℤ) (v : ℕ) → v ≤ 1 → neg_ℤ c *ℤ pos v ≡ neg_ℤ (c *ℤ pos v)
    by_value (pos n) zero h = omega (arith, ints)
    by_value (pos n) (suc zero) h = omega (arith, ints)
    by_value (negsuc n) zero h = omega (arith, ints)
    by_value (negsuc n) (suc zero) h = omega (arith, ints)
    by_value c (suc (suc v)) h = absurd (omega arith)

sum_value-negated : (a : List Bool) (terms : List Term) → sum_value a (map negated terms) ≡ neg_ℤ (sum_value a terms)
sum_value-negated a [] = refl
sum_value-negated a (t ∷ terms) =
    let here = negated_value a t in
    let rest = sum_value-negated a terms in
    let whole = sum_value-cons a t terms in
    let turned = sum_value-cons a (negated t) (map negated terms) in
    omega (arith, ints)

pub IsSumOf-negated : (n : ℕ) (terms : List Term) (base negated_base : ℤ) (positive turned : List PositiveTerm) → IsSumOf n terms base positive → negated_base ≡ neg_ℤ (base +ℤ pos (total_coefficient positive)) → turned ≡ map opposite positive → IsSumOf n (map negated terms) negated_base turned
IsSumOf-negated n terms base negated_base positive turned sum base_is is = rw is (record {
  value = λ a.
      (let all = positive_value-opposite a positive in
      let value = sum.value a in
      let negative = sum_value-negated a terms in
      omega (arith, ints));
  variables = All-map (λ (t : Term). (1 ≤ t.lit.var) × (t.lit.var ≤ n)) negated terms sum.variables;
  shape = ArePositiveTerms-map n opposite (λ t. refl) (λ t c. c) positive sum.shape;
})

-- the inequalities of a constraint hold exactly where it is met
holds_is : (a : List Bool) (relation : Relation) (terms : List Term) (bound : ℤ) → (All (λ i. Holds a i) (inequalities_of relation terms bound) → Stands relation (sum_value a terms) bound) × (Stands relation (sum_value a terms) bound → All (λ i. Holds a i) (inequalities_of relation terms bound))
holds_is a AtLeast terms bound = (λ h. All-head (λ i. Holds a i) _ [] h, λ h. all_of_one (λ i. Holds a i) _ h)
holds_is a AtMost terms bound =
    let turned = sum_value-negated a terms in
    let only : Inequality = record { terms = map negated terms; bound = neg_ℤ bound } in
    (λ h. (let low : Holds a only = All-head (λ i. Holds a i) only [] h in omega (arith, ints)), λ h. all_of_one (λ i. Holds a i) only (omega (arith, ints)))
holds_is a Equal terms bound =
    let turned = sum_value-negated a terms in
    let first : Inequality = record { terms = terms; bound = bound } in
    let second : Inequality = record { terms = map negated terms; bound = neg_ℤ bound } in (
      λ h.
          (let low : Holds a first = All-head (λ i. Holds a i) first (second ∷ []) h in
          let high : Holds a second = All-head (λ i. Holds a i) second [] (All-tail (λ i. Holds a i) first (second ∷ []) h) in
          omega (arith, ints)),
      λ h. All-cons (λ i. Holds a i) first (second ∷ []) (omega (arith, ints)) (all_of_one (λ i. Holds a i) second (omega (arith, ints))),
    )

all_hold : (a : List Bool) (constraints : List LinearConstraint) → (All (λ i. Holds a i) (flat_map inequalities constraints) → All (λ c. Meets a c) constraints) × (All (λ c. Meets a c) constraints → All (λ i. Holds a i) (flat_map inequalities constraints))
all_hold a [] = (λ _. All-nil (λ c. Meets a c), λ _. All-nil (λ i. Holds a i))
all_hold a (c ∷ constraints) =
    let rest = all_hold a constraints in
    let here = holds_is a c.relation c.terms c.bound in
    let parts = flat_map-cons inequalities c constraints in (
      λ h. (let both = split_all (λ i. Holds a i) (inequalities c) (flat_map inequalities constraints) (subst (λ (is : List Inequality). All (λ i. Holds a i) is) parts h) in All-cons (λ d. Meets a d) c constraints (here.0 both.0) (rest.0 both.1)),
      λ h. subst (λ (is : List Inequality). All (λ i. Holds a i) is) (sym parts) (All-append (λ i. Holds a i) (inequalities c) (flat_map inequalities constraints) (here.1 (All-head (λ d. Meets a d) c constraints h)) (rest.1 (All-tail (λ d. Meets a d) c constraints h))),
    )

-- the rows of all constraints are met exactly where all constraints are
pub rows_mean : (n : ℕ) (constraints : List LinearConstraint) (rows : List PositiveRow) → AreNormalRows n (flat_map inequalities constraints) rows → (a : List Bool) → (MeetsRows a rows → All (λ c. Meets a c) constraints) × (All (λ c. Meets a c) constraints → MeetsRows a rows)
rows_mean n constraints rows are a =
    let means = are.means a in
    let hold = all_hold a constraints in
    (λ h. hold.0 (means.0 h), λ h. means.1 (hold.1 h))

-- what holds of all constraints holds of the one that is read
pub read_all : (P : LinearConstraint → Type 0) (constraints : List LinearConstraint) (i : ℕ) (c : LinearConstraint) → slice_get constraints i ≡ Some c → All P constraints → P c
read_all P constraints i c read all = subst P (get_or_from_slice_get constraints i c c read) (all i c (slice_get_within constraints i c read))

-- what the loop over the constraints keeps
pub record RowsSoFar (n : ℕ) (constraints : List LinearConstraint) (i : ℕ) (rows : List PositiveRow) : Type 0 where
  pub normal : AreNormalRows n (flat_map inequalities (take i constraints)) rows
  pub room : row_terms rows ≤ 2 * constraint_terms (take i constraints)

pub no_rows_yet : (n : ℕ) (constraints : List LinearConstraint) (rows : List PositiveRow) → rows ≡ [] → RowsSoFar n constraints 0 rows
no_rows_yet n constraints rows empty = record { normal = no_normal_rows n rows empty; room = rw empty (omega arith) }

more_constraints : (constraints : List LinearConstraint) (i : ℕ) (c : LinearConstraint) → slice_get constraints i ≡ Some c → take (i + 1) constraints ≡ take i constraints ++ c ∷ []
more_constraints constraints i c read =
    let less = slice_get_within constraints i c read in
    take_more constraints i c less ∙ ap (λ (d : LinearConstraint). take i constraints ++ d ∷ []) (get_or_from_slice_get constraints i c c read)

pub rows_step : (n : ℕ) (constraints : List LinearConstraint) (i : ℕ) (c : LinearConstraint) (old new : List PositiveRow) → slice_get constraints i ≡ Some c → AllVariablesWithin n c.terms → RowsSoFar n constraints i old → ((m : ℕ) → AllVariablesWithin m c.terms → AddsRows m (inequalities c) old new) → row_terms new ≤ row_terms old + 2 * length c.terms → RowsSoFar n constraints (i + 1) new
rows_step n constraints i c old new read within before adds room =
    let more = more_constraints constraints i c read in
    let added = adds n within in
    let parts : flat_map inequalities (take (i + 1) constraints) ≡ flat_map inequalities (take i constraints) ++ inequalities c = ap (λ (cs : List LinearConstraint). flat_map inequalities cs) more ∙ sym (flat_map_more inequalities [] (take i constraints) c) in
    let count = ap constraint_terms more in
    let sum = sum_by_push (λ (d : LinearConstraint). length d.terms) (take i constraints) c in
    let few = before.room in
    record {
      normal = rw (parts, added.added) (AreNormalRows-append n (flat_map inequalities (take i constraints)) (inequalities c) old added.own before.normal added.rows);
      room = omega arith;
    }

-- there is room for the rows of one more constraint
pub room_for : (n : ℕ) (p : Problem) (i : ℕ) (c : LinearConstraint) (rows : List PositiveRow) → IsProper p → slice_get p.constraints i ≡ Some c → RowsSoFar n p.constraints i rows → row_terms rows + 2 * length c.terms ≤ MAX_ROW_TERMS
room_for n p i c rows proper read before =
    let more = ap constraint_terms (more_constraints p.constraints i c read) in
    let sum = sum_by_push (λ (d : LinearConstraint). length d.terms) (take i p.constraints) c in
    let part = sum_by-take-le (λ (d : LinearConstraint). length d.terms) p.constraints (i + 1) in
    let all = proper.limits.all_terms in
    let few = before.room in
    omega arith

pub all_rows : (n : ℕ) (constraints : List LinearConstraint) (i : ℕ) (rows : List PositiveRow) → length constraints ≤ i → RowsSoFar n constraints i rows → AreNormalRows n (flat_map inequalities constraints) rows
all_rows n constraints i rows more h = subst (λ (cs : List LinearConstraint). AreNormalRows n (flat_map inequalities cs) rows) (take_all i constraints more) h.normal

-- a constraint gives two rows at most
two_at_most : (relation : Relation) (terms : List Term) (bound : ℤ) → length (inequalities_of relation terms bound) ≤ 2
two_at_most AtLeast terms bound = omega arith
two_at_most AtMost terms bound = omega arith
two_at_most Equal terms bound = omega arith

inequality_count : (constraints : List LinearConstraint) → length (flat_map inequalities constraints) ≤ 2 * length constraints
inequality_count [] = omega arith
inequality_count (c ∷ constraints) =
    let rest = inequality_count constraints in
    let here = two_at_most c.relation c.terms c.bound in
    let whole = ap (λ (is : List Inequality). length is) (flat_map-cons inequalities c constraints) in
    let parts = length-append (inequalities c) (flat_map inequalities constraints) in
    omega arith

one_at_most : (is : List Inequality) (rows : List PositiveRow) → AreRowsOf is rows → length rows ≤ length is
one_at_most _ _ none = omega arith
one_at_most _ _ (no_row i is rows always are) = let rest = one_at_most is rows are in omega arith
one_at_most _ _ (one_row i row is rows here are) = let rest = one_at_most is rows are in omega arith

pub row_count_is : (constraints : List LinearConstraint) (rows : List PositiveRow) → AreRowsOf (flat_map inequalities constraints) rows → length rows ≤ 2 * length constraints
row_count_is constraints rows are =
    let each = one_at_most (flat_map inequalities constraints) rows are in
    let all = inequality_count constraints in
    omega arith
