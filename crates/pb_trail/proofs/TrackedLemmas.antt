-- The counters and values stay up to date when a literal joins or leaves the trail.
use Rattle.std.proofs.Common.{◌≡◌, ◌≢◌, ℕ, ◌+◌, ◌-◌, ◌<◌, ◌≤◌, ◌^◌, List, [], ◌∷◌, ◌++◌, length, get_or, set, take, refl, sym, ◌∙◌, ap, subst, arith, Option, Some, None, Bool, true, false, cond, count_by, is_some, All, inl, inr, get_or-set_same, get_or-set_other, length-set, length-append, zero, suc, replicate}
use Rattle.std.proofs.lemmas.Bool.{cases_eq, cases_lt}
use Rattle.std.proofs.lemmas.List.{length-replicate, get_or-replicate, take_all, take-append-le, get_or_append_left, get_or-append_right}
use Rattle.std.proofs.lemmas.List.Elements.{All-push}
use Rattle.std.proofs.lemmas.List.Sums.{sum_by-set, count_by-le-length}
use Rattle.pb_inst.specs.Literal.{Literal}
use Rattle.pb_rows.specs.Constraints.{AreRowsOver, Constraints, row_at}
use Rattle.pb_normal.specs.Literals.{negation, weight_of}
use Rattle.pb_trail.specs.Trail.{value_on, reachable}
use Rattle.pb_trail.specs.SlackCache.{SlackCacheState, IsKnown, KnowsNothing}
use Rattle.pb_trail.specs.Tracked.{TrailState, IsConsistent, AreValues, IsUpToDate}
use Rattle.pb_trail.proofs.TrailLemmas.{value_on-same, value_on-other, value_on-before, reachable-push, is_true-nil}

-- how many are set once one more is
count_set : (marks : List (Option Bool)) (i : ℕ) (b : Bool) → i < length marks → get_or marks i None ≡ None → count_by is_some (set marks i (Some b)) ≡ count_by is_some marks + 1
count_set marks i b h free =
    let step = sum_by-set (λ (m : Option Bool). cond (is_some m) 1 0) marks i (Some b) None h in
    let before : ◌≡◌ {A = ℕ} (cond (is_some (get_or marks i None)) 1 0) 0 = rw free refl in
    omega arith

count_unset : (marks : List (Option Bool)) (i : ℕ) (b : Bool) → i < length marks → get_or marks i None ≡ Some b → count_by is_some (set marks i None) + 1 ≡ count_by is_some marks
count_unset marks i b h was =
    let step = sum_by-set (λ (m : Option Bool). cond (is_some m) 1 0) marks i None None h in
    let before : ◌≡◌ {A = ℕ} (cond (is_some (get_or marks i None)) 1 0) 1 = rw was refl in
    omega arith

pub IsConsistent-push : (trail : List Literal) (l : Literal) → IsConsistent trail → value_on trail l.var ≡ None → IsConsistent (trail ++ l ∷ [])
IsConsistent-push trail l before free k d h =
    let long = length-append trail (l ∷ []) in
    elim (cases_lt k (length trail)) [
      | inl early ↦
          let front : take k (trail ++ l ∷ []) ≡ take k trail = take-append-le k trail (l ∷ []) (omega arith) in
          let here : get_or (trail ++ l ∷ []) k d ≡ get_or trail k d = get_or_append_left trail (l ∷ []) d k early in
          rw (front, here) (before k d early)
      | inr late ↦
          let last : k ≡ length trail = omega arith in
          let front : take k (trail ++ l ∷ []) ≡ trail = take-append-le k trail (l ∷ []) (omega arith) ∙ take_all k trail (omega arith) in
          let here : get_or (trail ++ l ∷ []) k d ≡ l = get_or-append_right trail (l ∷ []) (length trail) k d refl late ∙ ap (λ (i : ℕ). get_or (l ∷ []) i d) (let zero : k - length trail ≡ 0 = omega arith in zero) in
          rw (front, here) free
    ]

pub IsConsistent-front : (trail : List Literal) (l : Literal) → IsConsistent (trail ++ l ∷ []) → IsConsistent trail
IsConsistent-front trail l whole k d h =
    let long = length-append trail (l ∷ []) in
    let at = whole k d (omega arith) in
    let front : take k (trail ++ l ∷ []) ≡ take k trail = take-append-le k trail (l ∷ []) (omega arith) in
    let here : get_or (trail ++ l ∷ []) k d ≡ get_or trail k d = get_or_append_left trail (l ∷ []) d k h in
    rw (front, here) at at

-- before the last literal its variable has no value
pub last_is_free : (trail : List Literal) (l : Literal) → IsConsistent (trail ++ l ∷ []) → value_on trail l.var ≡ None
last_is_free trail l whole =
    let long = length-append trail (l ∷ []) in
    let at = whole (length trail) l (omega arith) in
    let front : take (length trail) (trail ++ l ∷ []) ≡ trail = take-append-le (length trail) trail (l ∷ []) (omega arith) ∙ take_all (length trail) trail (omega arith) in
    let here : get_or (trail ++ l ∷ []) (length trail) l ≡ l = get_or-append_right trail (l ∷ []) (length trail) (length trail) l refl (omega arith) ∙ ap (λ (i : ℕ). get_or (l ∷ []) i l) (let zero : length trail - length trail ≡ 0 = omega arith in zero) in
    rw (front, here) at at

-- while a variable has no value the trail is shorter than there are variables
pub trail_has_room : (marks : List (Option Bool)) (trail : List Literal) (capacity v : ℕ) → AreValues marks trail capacity → 1 ≤ v → v ≤ length marks → value_on trail v ≡ None → length trail < length marks
trail_has_room marks trail capacity v are low high free =
    let mark : get_or marks (v - 1) None ≡ None = are.values v low high ∙ free in
    let more = count_set marks (v - 1) true (omega arith) mark in
    let most = count_by-le-length is_some (set marks (v - 1) (Some true)) in
    omega (arith, length-set {A = Option Bool}, are.assigned)

-- a literal without a value joins
pub AreValues-push : (marks new_marks : List (Option Bool)) (trail new_trail : List Literal) (capacity new_capacity : ℕ) (l : Literal) → AreValues marks trail capacity → 1 ≤ l.var → l.var ≤ length marks → value_on trail l.var ≡ None → new_marks ≡ set marks (l.var - 1) (Some l.positive) → new_trail ≡ trail ++ l ∷ [] → new_capacity ≡ capacity → AreValues new_marks new_trail new_capacity
AreValues-push marks new_marks trail new_trail capacity new_capacity l are low high free marks_are trail_is capacity_is =
    let within : l.var - 1 < length marks = omega arith in
    let mark : get_or marks (l.var - 1) None ≡ None = are.values l.var low high ∙ free in
    rw (marks_are, trail_is, capacity_is) (record {
      values = λ v from upto. value_after v from (omega (arith, length-set {A = Option Bool})) within;
      assigned = omega (arith, count_set marks (l.var - 1) l.positive within mark, are.assigned, length-append trail (l ∷ []));
      within = rw length-set (All-push (λ (m : Literal). (1 ≤ m.var) × (m.var ≤ length marks)) trail l are.within (low, high));
      consistent = IsConsistent-push trail l are.consistent free;
      room = rw length-set are.room;
      small = rw length-set are.small;
    })
  where
    value_after : (v : ℕ) → 1 ≤ v → v ≤ length marks → l.var - 1 < length marks → get_or (set marks (l.var - 1) (Some l.positive)) (v - 1) None ≡ value_on (trail ++ l ∷ []) v
    value_after v from upto within = elim (cases_eq v l.var) [
      | inl same ↦ (let here : get_or (set marks (l.var - 1) (Some l.positive)) (l.var - 1) None ≡ Some l.positive = rw get_or-set_same refl in rw same (here ∙ sym (value_on-same trail l free)))
      | inr other ↦ (let apart : v - 1 ≢ l.var - 1 = λ e. other (omega arith) in rw get_or-set_other (are.values v from upto ∙ sym (value_on-other trail l v other)))
    ]

-- the last literal leaves
pub AreValues-pop : (marks new_marks : List (Option Bool)) (trail front : List Literal) (capacity new_capacity : ℕ) (l : Literal) → AreValues marks trail capacity → 1 ≤ l.var → l.var ≤ length marks → new_marks ≡ set marks (l.var - 1) None → trail ≡ front ++ l ∷ [] → new_capacity ≡ capacity → AreValues new_marks front new_capacity
AreValues-pop marks new_marks trail front capacity new_capacity l before low high marks_are trail_is capacity_is =
    let are : AreValues marks (front ++ l ∷ []) capacity = subst (λ (t : List Literal). AreValues marks t capacity) trail_is before in
    let within : l.var - 1 < length marks = omega arith in
    let free = last_is_free front l are.consistent in
    let mark : get_or marks (l.var - 1) None ≡ Some l.positive = are.values l.var low high ∙ value_on-same front l free in
    rw (marks_are, capacity_is) (record {
      values = λ v from upto. value_after are free v from (omega (arith, length-set {A = Option Bool})) within;
      assigned = omega (arith, count_unset marks (l.var - 1) l.positive within mark, are.assigned, length-append front (l ∷ []));
      within = rw length-set (λ k d h. front_within are k d h);
      consistent = IsConsistent-front front l are.consistent;
      room = rw length-set are.room;
      small = rw length-set are.small;
    })
  where
    value_after : AreValues marks (front ++ l ∷ []) capacity → value_on front l.var ≡ None → (v : ℕ) → 1 ≤ v → v ≤ length marks → l.var - 1 < length marks → get_or (set marks (l.var - 1) None) (v - 1) None ≡ value_on front v
    value_after are free v from upto within = elim (cases_eq v l.var) [
      | inl same ↦ (let here : get_or (set marks (l.var - 1) None) (l.var - 1) None ≡ None = rw get_or-set_same refl in rw same (here ∙ sym free))
      | inr other ↦ (let apart : v - 1 ≢ l.var - 1 = λ e. other (omega arith) in rw get_or-set_other (are.values v from upto ∙ value_on-other front l v other))
    ]

    front_within : AreValues marks (front ++ l ∷ []) capacity → (k : ℕ) (d : Literal) → k < length front → (1 ≤ (get_or front k d).var) × ((get_or front k d).var ≤ length marks)
    front_within are k d h =
        let here : get_or (front ++ l ∷ []) k d ≡ get_or front k d = get_or_append_left front (l ∷ []) d k h in
        subst (λ (m : Literal). (1 ≤ m.var) × (m.var ≤ length marks)) here (are.within k d (omega (arith, length-append front (l ∷ []))))

-- the variable of the last literal
pub AreValues-last : (marks : List (Option Bool)) (trail front : List Literal) (capacity : ℕ) (l : Literal) → AreValues marks trail capacity → trail ≡ front ++ l ∷ [] → (1 ≤ l.var) × (l.var ≤ length marks)
AreValues-last marks trail front capacity l are whole =
    let all : All (λ (m : Literal). (1 ≤ m.var) × (m.var ≤ length marks)) (front ++ l ∷ []) = subst (λ (t : List Literal). All (λ (m : Literal). (1 ≤ m.var) × (m.var ≤ length marks)) t) whole are.within in
    let here : get_or (front ++ l ∷ []) (length front) l ≡ l = get_or-append_right front (l ∷ []) (length front) (length front) l refl (omega arith) ∙ ap (λ (i : ℕ). get_or (l ∷ []) i l) (let zero : length front - length front ≡ 0 = omega arith in zero) in
    subst (λ (m : Literal). (1 ≤ m.var) × (m.var ≤ length marks)) here (all (length front) l (omega (arith, length-append front (l ∷ []))))

-- nothing is on the empty trail
pub AreValues-nil : (marks : List (Option Bool)) (trail : List Literal) (capacity n : ℕ) → marks ≡ replicate n None → trail ≡ [] → n ≤ capacity → n < 2 ^ 32 → AreValues marks trail capacity
AreValues-nil marks trail capacity n unset empty room small =
    let count : length (replicate {A = Option Bool} n None) ≡ n = length-replicate n None in
    rw (unset, empty) (record {
      values = λ v low high. get_or-replicate n (v - 1) None None (omega arith) ∙ sym (no_value_on_nil v);
      assigned = count_none n;
      within = λ k d h. absurd (omega arith);
      consistent = λ k d h. absurd (omega arith);
      room = omega arith;
      small = omega arith;
    })
  where
    no_value_on_nil : (v : ℕ) → value_on [] v ≡ None
    no_value_on_nil v = rw (is_true-nil (record { var = v; positive = true }), is_true-nil (record { var = v; positive = false })) refl

    count_none : (n : ℕ) → count_by is_some (replicate {A = Option Bool} n None) ≡ 0
    count_none zero = refl
    count_none (suc n) = count_none n

-- the sums when a literal without a value joins
pub IsUpToDate-push : (c : Constraints) (old new : TrailState) (l : Literal) → IsUpToDate c old → value_on old.lits l.var ≡ None → new.vars ≡ old.vars → new.lits ≡ old.lits ++ l ∷ [] → length new.sums ≡ length old.sums → ((r : ℕ) → r < length old.sums → get_or new.sums r 0 + weight_of (negation l) (row_at c.rows r).terms ≡ get_or old.sums r 0) → new.slack_cache ≡ old.slack_cache → IsUpToDate c new
IsUpToDate-push c old new l is free vars joined count lowered same_cache = record {
  rows_over = is.rows_over;
  vars = vars ∙ is.vars;
  sum_count = count ∙ is.sum_count;
  sums = λ r h.
      (let now = ap (λ (t : List Literal). reachable t (row_at c.rows r).terms) joined in
      omega (arith, lowered r (omega (arith, is.sum_count)), reachable-push old.lits l (row_at c.rows r).terms free, is.sums r h));
  slack_cache = λ row slack known.
      (let before = is.slack_cache row slack (subst (λ (slack_cache : SlackCacheState). IsKnown slack_cache row slack) same_cache known) in
      λ k d h unset. before k d h (value_on-before old.lits l (get_or (row_at c.rows row).terms k d).lit.var free (subst (λ (t : List Literal). value_on t (get_or (row_at c.rows row).terms k d).lit.var ≡ None) joined unset)));
}

-- the sums when the last literal leaves
pub IsUpToDate-pop : (c : Constraints) (old new : TrailState) (l : Literal) → IsUpToDate c old → value_on new.lits l.var ≡ None → new.vars ≡ old.vars → old.lits ≡ new.lits ++ l ∷ [] → length new.sums ≡ length old.sums → ((r : ℕ) → r < length old.sums → get_or new.sums r 0 ≡ get_or old.sums r 0 + weight_of (negation l) (row_at c.rows r).terms) → KnowsNothing new.slack_cache → IsUpToDate c new
IsUpToDate-pop c old new l is free vars whole count raised nothing = record {
  rows_over = is.rows_over;
  vars = vars ∙ is.vars;
  sum_count = count ∙ is.sum_count;
  sums = λ r h.
      (let before = ap (λ (t : List Literal). reachable t (row_at c.rows r).terms) whole in
      omega (arith, raised r (omega (arith, is.sum_count)), reachable-push new.lits l (row_at c.rows r).terms free, is.sums r h));
  slack_cache = λ row slack known. absurd (nothing row slack known);
}

-- the sums of the empty trail
pub IsUpToDate-nil : (c : Constraints) (t : TrailState) → length t.sums ≡ length c.rows → ((r : ℕ) → r < length c.rows → get_or t.sums r 0 ≡ reachable [] (row_at c.rows r).terms) → t.lits ≡ [] → t.vars ≡ c.vars → AreRowsOver c.vars c.rows → KnowsNothing t.slack_cache → IsUpToDate c t
IsUpToDate-nil c t count totals empty vars over nothing = record {
  rows_over = over;
  vars = vars;
  sum_count = count;
  sums = λ r h. totals r h ∙ ap (λ (ls : List Literal). reachable ls (row_at c.rows r).terms) (sym empty);
  slack_cache = λ row slack known. absurd (nothing row slack known);
}
