-- The statuses of variables, and what one more search shows of them.
use Rattle.std.proofs.Common.{◌≡◌, ◌≢◌, ℕ, ◌+◌, ◌<◌, ◌≤◌, List, [], ◌∷◌, ◌++◌, Bool, true, false, Option, None, Some, Result, Ok, length, length-append, replicate, refl, sym, ap, ◌∙◌, subst, arith, inl, inr, ◌⊎◌, ℤ}
use Rattle.std.specs.Prelude.{All, IfNone, IsSomeAnd, not, slice_index_or, slice_set, ◌≤ℤ◌, ◌<ℤ◌}
use Rattle.std.specs.Option.{IfSome, option_map}
use Rattle.std.specs.Result.{IfOk}
use Rattle.std.specs.Int.Signed.{≤ℤ_refl}
use Rattle.std.proofs.Math.ListN.{get_or-append, length-set}
use Rattle.std.proofs.Math.Seq.{get_or-append_seam}
use Rattle.std.proofs.lemmas.List.{get_or-set_other, get_or-set_same, get_or-replicate, length-replicate}
use Rattle.std.proofs.lemmas.Bool.Decides.{leb_tells}
use Rattle.std.proofs.lemmas.Int.{ints, by_lt_z}
use Rattle.std.proofs.lemmas.List.Elements.{All-from_get_or, All-push}
use Rattle.pb_inst.specs.Literal.{Literal}
use Rattle.pb_inst.specs.Problem.{Problem}
use Rattle.pb_inst.specs.Incumbent.{Solution}
use Rattle.pb_inst.specs.Meaning.{cost, literal_value}
use Rattle.pb_inst.proofs.SumProofs.{literal_cases}
use Rattle.pb_prune.proofs.ClosedLemmas.{bit_of_true}
use Rattle.pb_subtree.proofs.PathLemmas.{negated_true}
use Rattle.pb_questions.specs.declared.fixing.Among.{Among}
use Rattle.pb_questions.specs.declared.fixing.Among.TheVariants.{Feasible, Least}
use Rattle.pb_questions.specs.declared.fixing.Fixed.{Fixed}
use Rattle.pb_questions.specs.declared.fixing.Fixed.TheVariants.{Infeasible, Variables}
use Rattle.pb_questions.specs.declared.fixing.VariableStatus.{VariableStatus}
use Rattle.pb_questions.specs.declared.fixing.VariableStatus.TheVariants.{FixedTrue, FixedFalse, Free, Unknown}
use Rattle.pb_questions.specs.declared.seeking.Sought.{Sought}
use Rattle.pb_questions.specs.declared.seeking.Sought.TheVariants.{Found, Nothing, Cut}
use Rattle.pb_questions.specs.Under.{named_literals, IsFeasibleUnder, IsInfeasibleUnder, HoldsLeastUnder, HoldsUnder}
use Rattle.pb_questions.specs.Sought.{IsAnswerTo, IsAnswerToOther, IsWithin}
use Rattle.pb_questions.specs.Fixed.{fixed_to, AreStatusesOf, AreUnknown, HoldsFor, IsAskedAbout, IsFixedAnswer, IsLearned, IsStatusOf, MarksFree}
use Rattle.pb_questions.proofs.UnderLemmas.{ok_weaker, under_all, under_named}

not_not : (b : Bool) → b ≡ not (not b)
not_not true = refl
not_not false = refl

never_its_negation : (b : Bool) → not b ≡ b → ⊥
never_its_negation true h = cc
never_its_negation false h = cc

-- what makes the literals and one more true makes them true
front_within : (p : Problem) (cube : List Literal) (l : Literal) (bound : Option ℤ) (a : List Bool) → IsWithin p (cube ++ l ∷ []) bound a → IsWithin p cube bound a
front_within p cube l bound a h = record {
  feasible = record {
    for_all_variables = h.feasible.for_all_variables;
    feasible = h.feasible.feasible;
    meets = λ k d below. subst (λ (m : Literal). m.var ≤ p.vars → literal_value a m ≡ 1) (get_or-append cube (l ∷ []) d k below) (h.feasible.meets k d (let n : length (cube ++ l ∷ []) ≡ length cube + 1 = length-append cube (l ∷ []) in omega arith));
  };
  within = h.within;
}

last_true : (p : Problem) (cube : List Literal) (l : Literal) (a : List Bool) → l.var ≤ p.vars → IsFeasibleUnder p (cube ++ l ∷ []) a → literal_value a l ≡ 1
last_true p cube l a named h =
    subst (λ (m : Literal). m.var ≤ p.vars → literal_value a m ≡ 1) (get_or-append_seam cube l [] l) (h.meets (length cube) l (let n : length (cube ++ l ∷ []) ≡ length cube + 1 = length-append cube (l ∷ []) in omega arith)) named

-- and what makes both true makes the longer list true
with_last : (p : Problem) (cube : List Literal) (l : Literal) (bound : Option ℤ) (a : List Bool) → IsWithin p cube bound a → literal_value a l ≡ 1 → IsWithin p (cube ++ l ∷ []) bound a
with_last p cube l bound a h one = record {
  feasible = record {
    for_all_variables = h.feasible.for_all_variables;
    feasible = h.feasible.feasible;
    meets = All-push (λ m. m.var ≤ p.vars → literal_value a m ≡ 1) cube l h.feasible.meets (λ named. one);
  };
  within = h.within;
}

-- what was sought under one literal more has the other value at the place
pub other_answer : (p : Problem) (cube : List Literal) (bound : Option ℤ) (place : ℕ) (value : Bool) (l : Literal) (sought : Sought) → place < p.vars → l ≡ record { var = place + 1; positive = not value } → IsAnswerTo p (cube ++ l ∷ []) bound sought → IsAnswerToOther p cube bound place value sought
other_answer p cube bound place value l (Found best) within is h = found best.held h.1
  where
    found : (held : Option Solution) → IsSomeAnd held (λ s. IsWithin p (cube ++ l ∷ []) bound s.assignment) → IsSomeAnd held (λ s. IsWithin p cube bound s.assignment × (slice_index_or s.assignment place false ≢ value))
    found None k = absurd k
    found (Some s) k = (
      front_within p cube l bound s.assignment k,
      λ same. never_its_negation value
          (sym (bit_of_true s.assignment place (not value) (subst (λ (m : Literal). literal_value s.assignment m ≡ 1) is (last_true p cube l s.assignment (subst (λ (m : Literal). m.var ≤ p.vars) (sym is) (omega arith)) k.feasible))) ∙ same),
    )
other_answer p cube bound place value l Nothing within is h = λ a k. elim (literal_cases a l) [
  | inl one ↦ absurd (h a (with_last p cube l bound a k one))
  | inr none ↦ bit_of_true a place value (negated_true a l (record { var = place + 1; positive = value }) (sym (ap (λ (m : Literal). m.var) is)) (not_not value ∙ ap not (sym (ap (λ (m : Literal). m.positive) is))) none)
]
other_answer p cube bound place value l Cut within is h = tt

same_bit : (x y : Bool) → (x ≡ y) ⊎ (x ≢ y)
same_bit true true = inl refl
same_bit true false = inr (λ e. cc)
same_bit false true = inr (λ e. cc)
same_bit false false = inl refl

same_place : (k n : ℕ) → (k ≡ n) ⊎ (k ≢ n)
same_place k n = elim (leb_tells k n) [
  | inl low ↦ elim (leb_tells n k) [
    | inl high ↦ inl (omega (arith, low.1, high.1))
    | inr over ↦ inr (λ e. absurd (omega (arith, over.1)))
  ]
  | inr over ↦ inr (λ e. absurd (omega (arith, over.1)))
]

-- two assignments that differ at the place
free_between : (Asked : List Bool → Type 0) (place : ℕ) (a b : List Bool) → Asked a → Asked b → slice_index_or a place false ≢ slice_index_or b place false → IsStatusOf Asked place Free
free_between Asked place a b is_a is_b differ = by (slice_index_or a place false) (slice_index_or b place false) refl refl
  where
    by : (x y : Bool) → slice_index_or a place false ≡ x → slice_index_or b place false ≡ y → IsStatusOf Asked place Free
    by true true e f = absurd (differ (e ∙ sym f))
    by true false e f = ((a, is_a, e), (b, is_b, f))
    by false true e f = ((b, is_b, f), (a, is_a, e))
    by false false e f = absurd (differ (e ∙ sym f))

fixed_status : (Asked : List Bool → Type 0) (place : ℕ) (value : Bool) → ((a : List Bool) → Asked a → slice_index_or a place false ≡ value) → IsStatusOf Asked place (fixed_to value)
fixed_status Asked place true h = h
fixed_status Asked place false h = h

fixed_is_known : (value : Bool) → fixed_to value ≢ Unknown
fixed_is_known true h = cc
fixed_is_known false h = cc

-- the statuses after one more search: they are right, that of the place is known where it was not cut, and none was lost
pub record IsFurther (Asked : List Bool → Type 0) (place : ℕ) (sought : Sought) (old new : List VariableStatus) : Type 0 where
  pub same_length : length new ≡ length old
  pub are : AreStatusesOf Asked new
  pub known_here : sought ≢ Cut → slice_index_or new place Unknown ≢ Unknown
  pub still_known : (k : ℕ) → k < length old → slice_index_or old k Unknown ≢ Unknown → slice_index_or new k Unknown ≢ Unknown

-- an assignment was found: the variables in which it differs from the first are free
marked : (Asked : List Bool → Type 0) (place : ℕ) (first other : List Bool) (sought : Sought) (old new : List VariableStatus) → place < length old → Asked first → Asked other → slice_index_or other place false ≢ slice_index_or first place false → AreStatusesOf Asked old → MarksFree first other old new → IsFurther Asked place sought old new
marked Asked place first other sought old new inside is_first is_other differ are marks = record {
  same_length = marks.same_length;
  are = λ k below. at k (subst (λ (n : ℕ). k < n) marks.same_length below);
  known_here = λ whole unknown. let it : Free ≡ Unknown = sym (marks.differ place inside (λ e. differ (sym e))) ∙ unknown in cc;
  still_known = λ k below known unknown. elim (same_bit (slice_index_or first k false) (slice_index_or other k false)) [
    | inl same ↦ known (sym (marks.agree k below same) ∙ unknown)
    | inr differs ↦ let it : Free ≡ Unknown = sym (marks.differ k below differs) ∙ unknown in cc
  ];
}
  where
    at : (k : ℕ) → k < length old → IsStatusOf Asked k (slice_index_or new k Unknown)
    at k below = elim (same_bit (slice_index_or first k false) (slice_index_or other k false)) [
      | inl same ↦ subst (λ (s : VariableStatus). IsStatusOf Asked k s) (sym (marks.agree k below same)) (are k below)
      | inr differs ↦ subst (λ (s : VariableStatus). IsStatusOf Asked k s) (sym (marks.differ k below differs)) (free_between Asked k first other is_first is_other differs)
    ]

-- there is none: the variable is fixed
settled : (Asked : List Bool → Type 0) (place : ℕ) (value : Bool) (sought : Sought) (old : List VariableStatus) → place < length old → AreStatusesOf Asked old → ((a : List Bool) → Asked a → slice_index_or a place false ≡ value) → IsFurther Asked place sought old (slice_set old place (fixed_to value))
settled Asked place value sought old inside are one = record {
  same_length = length-set old place (fixed_to value);
  are = λ k below. at k (let n = length-set old place (fixed_to value) in omega arith);
  known_here = λ whole unknown. fixed_is_known value (sym (get_or-set_same old place (fixed_to value) Unknown inside) ∙ unknown);
  still_known = λ k below known unknown. elim (same_place k place) [
    | inl here ↦ fixed_is_known value (sym (get_or-set_same old place (fixed_to value) Unknown inside) ∙ subst (λ (i : ℕ). slice_index_or (slice_set old place (fixed_to value)) i Unknown ≡ Unknown) here unknown)
    | inr other ↦ known (sym (get_or-set_other old place k (fixed_to value) Unknown other) ∙ unknown)
  ];
}
  where
    at : (k : ℕ) → k < length old → IsStatusOf Asked k (slice_index_or (slice_set old place (fixed_to value)) k Unknown)
    at k below = elim (same_place k place) [
      | inl here ↦ subst (λ (i : ℕ). IsStatusOf Asked i (slice_index_or (slice_set old place (fixed_to value)) i Unknown)) (sym here)
          (subst (λ (s : VariableStatus). IsStatusOf Asked place s) (sym (get_or-set_same old place (fixed_to value) Unknown inside)) (fixed_status Asked place value one))
      | inr other ↦ subst (λ (s : VariableStatus). IsStatusOf Asked k s) (sym (get_or-set_other old place k (fixed_to value) Unknown other)) (are k below)
    ]

pub learned : (p : Problem) (cube : List Literal) (bound : Option ℤ) (first : List Bool) (place : ℕ) (value : Bool) (sought : Sought) (old new : List VariableStatus) → place < length old → value ≡ slice_index_or first place false → IsWithin p cube bound first → AreStatusesOf (IsWithin p cube bound) old
    → IsAnswerToOther p cube bound place value sought → IsLearned first place value old sought new → IsFurther (IsWithin p cube bound) place sought old new
learned p cube bound first place value (Found best) old new inside same is_first are answer learnt = by best.held answer learnt
  where
    by : (held : Option Solution) → IsSomeAnd held (λ s. IsWithin p cube bound s.assignment × (slice_index_or s.assignment place false ≢ value)) → IfSome held (λ s. MarksFree first s.assignment old new) → IsFurther (IsWithin p cube bound) place (Found best) old new
    by None is marks = absurd is
    by (Some s) is marks = marked (IsWithin p cube bound) place first s.assignment (Found best) old new inside is_first is.0 (λ e. is.1 (e ∙ sym same)) are marks
learned p cube bound first place value Nothing old new inside same is_first are answer learnt =
    subst (λ (l : List VariableStatus). IsFurther (IsWithin p cube bound) place Nothing old l) (sym learnt) (settled (IsWithin p cube bound) place value Nothing old inside are answer)
learned p cube bound first place value Cut old new inside same is_first are answer learnt =
    subst (λ (l : List VariableStatus). IsFurther (IsWithin p cube bound) place Cut old l) (sym learnt)
    (record { same_length = refl; are = are; known_here = λ whole. absurd (whole refl); still_known = λ k below known. known })

-- what was found is an assignment to all variables
pub found_for : (p : Problem) (cube : List Literal) (bound : Option ℤ) (place : ℕ) (value : Bool) (sought : Sought) → IsAnswerToOther p cube bound place value sought → HoldsFor p.vars sought
found_for p cube bound place value (Found best) h = by best.held h
  where
    by : (held : Option Solution) → IsSomeAnd held (λ s. IsWithin p cube bound s.assignment × (slice_index_or s.assignment place false ≢ value)) → IfSome held (λ s. length s.assignment ≡ p.vars)
    by None is = tt
    by (Some s) is = is.0.feasible.for_all_variables
found_for p cube bound place value Nothing h = tt
found_for p cube bound place value Cut h = tt

-- nothing is known at first
pub none_known : (Asked : List Bool → Type 0) (n : ℕ) → AreStatusesOf Asked (replicate n Unknown)
none_known Asked n k below = subst (λ (s : VariableStatus). IsStatusOf Asked k s) (sym (get_or-replicate n k Unknown Unknown (subst (λ (m : ℕ). k < m) (length-replicate n Unknown) below))) tt

-- the same statuses tell of the same assignments
status_of_same : (A B : List Bool → Type 0) (place : ℕ) → ((a : List Bool) → A a → B a) → ((a : List Bool) → B a → A a) → (s : VariableStatus) → IsStatusOf A place s → IsStatusOf B place s
status_of_same A B place to from FixedTrue h = λ a is. h a (from a is)
status_of_same A B place to from FixedFalse h = λ a is. h a (from a is)
status_of_same A B place to from Free h = ((h.0.0, to h.0.0 h.0.1, h.0.2), (h.1.0, to h.1.0 h.1.1, h.1.2))
status_of_same A B place to from Unknown h = tt

pub statuses_of_same : (A B : List Bool → Type 0) (statuses : List VariableStatus) → ((a : List Bool) → A a → B a) → ((a : List Bool) → B a → A a) → AreStatusesOf A statuses → AreStatusesOf B statuses
statuses_of_same A B statuses to from h k below = status_of_same A B k to from (slice_index_or statuses k Unknown) (h k below)

-- without a bound the assignments that are asked about are those that are feasible
pub statuses_of_feasible : (p : Problem) (lits : List Literal) (statuses : List VariableStatus) → AreStatusesOf (IsWithin p (named_literals p.vars lits) None) statuses → AreStatusesOf (IsAskedAbout p lits Feasible) statuses
statuses_of_feasible p lits statuses h =
    statuses_of_same (IsWithin p (named_literals p.vars lits) None) (IsAskedAbout p lits Feasible) statuses
    (λ a is. under_named p lits a is.feasible) (λ a is. record { feasible = under_all p lits a is; within = tt }) h

not_less : (x y : ℤ) → (x <ℤ y → ⊥) → y ≤ℤ x
not_less x y h = by_lt_z x y (λ less. absurd (h less)) (λ more. more)

-- with the least cost as the bound they are those of least cost
pub statuses_of_least : (p : Problem) (lits : List Literal) (s : Solution) (statuses : List VariableStatus) → HoldsLeastUnder p (named_literals p.vars lits) (Some s) → AreStatusesOf (IsWithin p (named_literals p.vars lits) (Some s.cost)) statuses → AreStatusesOf (IsAskedAbout p lits Least) statuses
statuses_of_least p lits s statuses least h =
    statuses_of_same (IsWithin p (named_literals p.vars lits) (Some s.cost)) (IsAskedAbout p lits Least) statuses
    (λ a is. (
      under_named p lits a is.feasible,
      λ b b_is.
          let over : cost p s.assignment ≤ℤ cost p b = not_less (cost p b) (cost p s.assignment) (λ less. least.0.first b (under_all p lits b b_is) (inl less)) in
          let under : cost p a ≤ℤ cost p s.assignment = subst (λ (c : ℤ). cost p a ≤ℤ c) least.1 is.within in
          up (cost p a) (cost p s.assignment) (cost p b) under over,
    ))
    (λ a is. record { feasible = under_all p lits a is.0; within = subst (λ (c : ℤ). cost p a ≤ℤ c) (sym least.1) (is.1 s.assignment (under_named p lits s.assignment least.0.feasible)) })
    h
  where
    up : (x y z : ℤ) → x ≤ℤ y → y ≤ℤ z → x ≤ℤ z
    up x y z h k = omega (arith, ints)

-- a status for each place
pub all_known : (statuses : List VariableStatus) → ((k : ℕ) → k < length statuses → slice_index_or statuses k Unknown ≢ Unknown) → All (λ s. s ≢ Unknown) statuses
all_known statuses h = All-from_get_or (λ s. s ≢ Unknown) statuses Unknown h

-- what is held is one of the assignments that are asked about
pub first_feasible : (p : Problem) (cube : List Literal) (held : Option Solution) (first : List Bool) → HoldsUnder p cube held → Some first ≡ option_map (λ s. s.assignment) held → IsWithin p cube None first
first_feasible p cube None first h is = cc
first_feasible p cube (Some s) first h is = record { feasible = subst (λ (a : List Bool). IsFeasibleUnder p cube a) (let e : s.assignment ≡ first = cc in e) h.0; within = tt }

pub first_least : (p : Problem) (cube : List Literal) (held : Option Solution) (first : List Bool) → HoldsUnder p cube held → Some first ≡ option_map (λ s. s.assignment) held → IsWithin p cube (option_map (λ s. s.cost) held) first
first_least p cube None first h is = cc
first_least p cube (Some s) first h is =
    let same : s.assignment ≡ first = cc in
    record {
      feasible = subst (λ (a : List Bool). IsFeasibleUnder p cube a) same h.0;
      within = subst (λ (c : ℤ). cost p first ≤ℤ c) (ap (λ (a : List Bool). cost p a) (sym same) ∙ sym h.1) (≤ℤ_refl (cost p first));
    }

-- where nothing is held, nothing is feasible
pub nothing_held : (p : Problem) (lits : List Literal) (held : Option Solution) → HoldsLeastUnder p (named_literals p.vars lits) held → held ≡ None → IsInfeasibleUnder p lits
nothing_held p lits None least none a h = least a (under_all p lits a h)
nothing_held p lits (Some s) least none a h = cc

pub no_assignment : (held : Option Solution) → option_map (λ s. s.assignment) held ≡ None → held ≡ None
no_assignment None h = refl
no_assignment (Some s) h = cc

-- an answer in which nothing is known is right
pub unknown_answer : (p : Problem) (lits : List Literal) (among : Among) (fixed : Fixed) → AreUnknown p.vars fixed → IsFixedAnswer p lits among fixed
unknown_answer p lits among Infeasible h = absurd h
unknown_answer p lits among (Variables statuses) h =
    (ap length h ∙ length-replicate p.vars Unknown, subst (λ (l : List VariableStatus). AreStatusesOf (IsAskedAbout p lits among) l) (sym h) (none_known (IsAskedAbout p lits among) p.vars))

-- what is answered where nothing was found
pub without_first_answer : {E : Type 0} (p : Problem) (lits : List Literal) (among : Among) (held : Option Solution) (cut : Bool) (result : Result Fixed E) → (cut ≡ false → HoldsLeastUnder p (named_literals p.vars lits) held) → held ≡ None
    → (cut ≡ true → IfOk result (AreUnknown p.vars)) → (cut ≡ false → result ≡ Ok Infeasible) → IfOk result (IsFixedAnswer p lits among)
without_first_answer {E} p lits among held true result least none unknown whole = ok_weaker (AreUnknown p.vars) (IsFixedAnswer p lits among) (λ fixed h. unknown_answer p lits among fixed h) result (unknown refl)
without_first_answer {E} p lits among held false result least none unknown whole = subst (λ (r : Result Fixed E). IfOk r (IsFixedAnswer p lits among)) (sym (whole refl)) (nothing_held p lits held (least refl) none)

-- the statuses where the bound is the cost of what is held
pub statuses_of_cost : (p : Problem) (lits : List Literal) (held : Option Solution) (first : List Bool) (statuses : List VariableStatus) → HoldsLeastUnder p (named_literals p.vars lits) held → Some first ≡ option_map (λ s. s.assignment) held → AreStatusesOf (IsWithin p (named_literals p.vars lits) (option_map (λ s. s.cost) held)) statuses → AreStatusesOf (IsAskedAbout p lits Least) statuses
statuses_of_cost p lits None first statuses least is h = cc
statuses_of_cost p lits (Some s) first statuses least is h = statuses_of_least p lits s statuses least h

-- one more place of the loop
pub record IsSoFar (p : Problem) (cube : List Literal) (bound : Option ℤ) (unbounded : Option ℕ) (place : ℕ) (left : Option ℕ) (statuses : List VariableStatus) : Type 0 where
  pub count : length statuses ≡ p.vars
  pub are : AreStatusesOf (IsWithin p cube bound) statuses
  pub no_budget : IfNone unbounded ((left ≡ None) × ((k : ℕ) → k < place → slice_index_or statuses k Unknown ≢ Unknown))

up_to : (place : ℕ) (statuses : List VariableStatus) → ((k : ℕ) → k < place → slice_index_or statuses k Unknown ≢ Unknown) → slice_index_or statuses place Unknown ≢ Unknown → (k : ℕ) → k < place + 1 → slice_index_or statuses k Unknown ≢ Unknown
up_to place statuses before here k below = elim (same_place k place) [
  | inl same ↦ subst (λ (i : ℕ). slice_index_or statuses i Unknown ≢ Unknown) (sym same) here
  | inr other ↦ before k (omega (arith, other))
]

pub passed : (p : Problem) (cube : List Literal) (bound : Option ℤ) (unbounded : Option ℕ) (place : ℕ) (left : Option ℕ) (statuses : List VariableStatus) → slice_index_or statuses place Unknown ≢ Unknown → IsSoFar p cube bound unbounded place left statuses → IsSoFar p cube bound unbounded (place + 1) left statuses
passed p cube bound unbounded place left statuses here h = record { count = h.count; are = h.are; no_budget = by unbounded h.no_budget }
  where
    by : (o : Option ℕ) → IfNone o ((left ≡ None) × ((k : ℕ) → k < place → slice_index_or statuses k Unknown ≢ Unknown)) → IfNone o ((left ≡ None) × ((k : ℕ) → k < place + 1 → slice_index_or statuses k Unknown ≢ Unknown))
    by None before = (before.0, up_to place statuses before.1 here)
    by (Some n) before = tt

pub searched : (p : Problem) (cube : List Literal) (bound : Option ℤ) (unbounded : Option ℕ) (place : ℕ) (left new_left : Option ℕ) (sought : Sought) (old new : List VariableStatus) → place < p.vars → IsFurther (IsWithin p cube bound) place sought old new
    → IfNone left ((new_left ≡ None) × (sought ≢ Cut)) → IsSoFar p cube bound unbounded place left old → IsSoFar p cube bound unbounded (place + 1) new_left new
searched p cube bound unbounded place left new_left sought old new inside further whole h = record { count = further.same_length ∙ h.count; are = further.are; no_budget = by unbounded left h.no_budget whole }
  where
    by : (o left : Option ℕ) → IfNone o ((left ≡ None) × ((k : ℕ) → k < place → slice_index_or old k Unknown ≢ Unknown)) → IfNone left ((new_left ≡ None) × (sought ≢ Cut)) → IfNone o ((new_left ≡ None) × ((k : ℕ) → k < place + 1 → slice_index_or new k Unknown ≢ Unknown))
    by (Some n) left before whole = tt
    by None (Some n) before whole = let none : Some n ≡ None = before.0 in cc
    by None None before whole = (whole.0, up_to place new (λ k below. further.still_known k (let n : length old ≡ p.vars = h.count in omega arith) (before.1 k below)) (further.known_here whole.1))
