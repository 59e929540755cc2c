-- Rows that are counted as a trail leaves them: what keeps their shape, and why completions meet them.
use Rattle.std.proofs.Common.{◌≡◌, ℕ, zero, suc, ◌+◌, ◌-◌, ◌*◌, ◌<◌, ◌≤◌, List, [], ◌∷◌, ◌++◌, length, get_or, set, map, take, min, refl, sym, ◌∙◌, ap, subst, arith, Bool, true, false, cond, ◌||◌, Some, None, inl, inr, All, sum_by, length-append, take-suc}
use mathlib.Core.Bool.{beq}
use Rattle.std.proofs.lemmas.Bool.{or_cases}
use Rattle.std.proofs.lemmas.List.{take_more, take_all, map_more, get_or-map, length-map, take-append-le}
use Rattle.std.proofs.lemmas.List.Elements.{All-map, All-head, All-tail}
use Rattle.std.proofs.lemmas.List.Folds.{map_fixed}
use Rattle.std.proofs.lemmas.List.Sums.{sum_by-cons, sum_by_push, sum_by-take-le}
use Rattle.pb_inst.specs.Literal.{Literal}
use Rattle.pb_inst.specs.Meaning.{literal_value}
use Rattle.pb_normal.specs.declared.terms.PositiveTerm.{PositiveTerm}
use Rattle.pb_normal.specs.NormalForm.{PositiveRow, NormalForm, positive_value, total_coefficient, MeetsRow, MeetsRows, ArePositiveTerms, IsPositiveRow, HasSmallSums, IsNormal}
use Rattle.pb_normal.specs.Literals.{same_literal}
use Rattle.pb_normal.proofs.LiteralLemmas.{lit, same_literal-is}
use Rattle.pb_rows.specs.Constraints.{row_at}
use Rattle.pb_trail.specs.Trail.{is_true, value_on, reached}
use Rattle.pb_trail.specs.Tracked.{IsConsistent}
use Rattle.pb_trail.proofs.TrailLemmas.{is_true-push, is_true-nil, no_value}
use Rattle.pb_trail.specs.Completion.{IsCompletion}
use Rattle.pb_trail.proofs.CompletionLemmas.{true_in_completion, literal_value-negation}
use Rattle.pb_dual.specs.ReducedCosts.{weighted}
use Rattle.pb_dual.specs.Saturation.{Saturation, capped_term, capped, counted_row, counted_rows, counted_form, saturation_at, left_of, saturation_of, whole, AreWhole, IsWithinRow, AreSaturations}

-- there are as many rows as before
pub length-counted : (ss : List Saturation) (rows : List PositiveRow) → length ss ≡ length rows → length (counted_rows ss rows) ≡ length rows
length-counted [] [] same = refl
length-counted [] (row ∷ rows) same = absurd (omega arith)
length-counted (s ∷ ss) [] same = absurd (omega arith)
length-counted (s ∷ ss) (row ∷ rows) same = omega (arith, length-counted ss rows (omega arith))

-- each of them is counted in its own way
pub counted-at : (ss : List Saturation) (rows : List PositiveRow) (r : ℕ) (d : PositiveRow) → length ss ≡ length rows → r < length rows → get_or (counted_rows ss rows) r d ≡ counted_row (saturation_at ss r) (row_at rows r)
counted-at [] rows r d same h = absurd (omega arith)
counted-at (s ∷ ss) [] r d same h = absurd (omega arith)
counted-at (s ∷ ss) (row ∷ rows) zero d same h = refl
counted-at (s ∷ ss) (row ∷ rows) (suc r) d same h = counted-at ss rows r d (omega arith) (omega arith)

-- one row is counted in another way
pub counted-set : (ss : List Saturation) (rows : List PositiveRow) (r : ℕ) (s : Saturation) → length ss ≡ length rows → r < length rows → counted_rows (set ss r s) rows ≡ set (counted_rows ss rows) r (counted_row s (row_at rows r))
counted-set [] rows r s same h = absurd (omega arith)
counted-set (t ∷ ss) [] r s same h = absurd (omega arith)
counted-set (t ∷ ss) (row ∷ rows) zero s same h = refl
counted-set (t ∷ ss) (row ∷ rows) (suc r) s same h = ap (λ (rest : List PositiveRow). counted_row t row ∷ rest) (counted-set ss rows r s (omega arith) (omega arith))

-- a row with a multiplier of 0 is worth nothing, however it is counted
pub weighted-unused : (worth : PositiveRow → ℕ) (ys : List ℕ) (rows : List PositiveRow) (r : ℕ) (row : PositiveRow) → get_or ys r 0 ≡ 0 → weighted worth ys (set rows r row) ≡ weighted worth ys rows
weighted-unused worth [] rows r row none = refl
weighted-unused worth (y ∷ ys) [] r row none = refl
weighted-unused worth (y ∷ ys) (first ∷ rows) zero row none =
    let before : y * worth first ≡ 0 = ap (λ (n : ℕ). n * worth first) none ∙ (let z : 0 * worth first ≡ 0 = omega arith in z) in
    let after : y * worth row ≡ 0 = ap (λ (n : ℕ). n * worth row) none ∙ (let z : 0 * worth row ≡ 0 = omega arith in z) in
    omega arith
weighted-unused worth (y ∷ ys) (first ∷ rows) (suc r) row none = omega (arith, weighted-unused worth ys rows r row none)

-- a row that is counted as it is
clipped-whole : (row : PositiveRow) → All (λ (t : PositiveTerm). t.coef ≤ row.degree) row.terms → capped row.degree row.terms ≡ row.terms
clipped-whole row clipped = map_fixed (capped_term row.degree) row.terms (λ k d h. (let within = clipped k d h in let same : min (get_or row.terms k d).coef row.degree ≡ (get_or row.terms k d).coef = omega arith in ap (λ (n : ℕ). record (get_or row.terms k d) { coef = n }) same))

pub counted-whole : (row : PositiveRow) → All (λ (t : PositiveTerm). t.coef ≤ row.degree) row.terms → counted_row (whole row) row ≡ row
counted-whole row clipped = ap (λ (ts : List PositiveTerm). record row { terms = ts }) (clipped-whole row clipped)

pub counted-wholes : (rows : List PositiveRow) (ss : List Saturation) (n : ℕ) → AreWhole rows ss → All (IsPositiveRow n) rows → counted_rows ss rows ≡ rows
counted-wholes [] ss n are shape = rw are refl
counted-wholes (row ∷ rows) ss n are shape = rw are (
    let P : PositiveRow → Type 0 = IsPositiveRow n in
    let here : counted_row (whole row) row ≡ row = counted-whole row (All-head P row rows shape).clipped in
    let rest : counted_rows (map whole rows) rows ≡ rows = counted-wholes rows (map whole rows) n refl (All-tail P row rows shape) in
    ap (λ (first : PositiveRow). first ∷ counted_rows (map whole rows) rows) here ∙ ap (λ (others : List PositiveRow). row ∷ others) rest)

-- capped terms are positive, and their sum is no more
capped-positive : (n most : ℕ) (terms : List PositiveTerm) → 1 ≤ most → ArePositiveTerms n terms → ArePositiveTerms n (capped most terms)
capped-positive n most terms some are = record {
  coefficients = All-map (λ (t : PositiveTerm). 1 ≤ t.coef) (capped_term most) terms (λ k d h. omega (arith, are.coefficients k d h));
  variables = All-map (λ (t : PositiveTerm). (1 ≤ t.lit.var) × (t.lit.var ≤ n)) (capped_term most) terms are.variables;
  rising = λ i j d before h.
      (let long : j < length terms = omega (arith, length-map terms (capped_term most)) in
      let first = get_or-map (capped_term most) terms i d d (omega arith) in
      let second = get_or-map (capped_term most) terms j d d long in
      let rises = are.rising i j d before long in
      let one = ap (λ (t : PositiveTerm). t.lit.var) first in
      let other = ap (λ (t : PositiveTerm). t.lit.var) second in
      omega arith);
}

pub capped-total : (most : ℕ) (terms : List PositiveTerm) → total_coefficient (capped most terms) ≤ total_coefficient terms
capped-total most [] = omega arith
capped-total most (t ∷ terms) =
    let f : PositiveTerm → ℕ = λ u. u.coef in
    omega (arith, sum_by-cons f t terms, sum_by-cons f (capped_term most t) (capped most terms), capped-total most terms)

counted-positive : (n : ℕ) (row : PositiveRow) (s : Saturation) → IsWithinRow row s → IsPositiveRow n row → IsPositiveRow n (counted_row s row)
counted-positive n row s within is = record {
  degree = omega (arith, within.some, within.clipped);
  terms = capped-positive n s.most row.terms within.some is.terms;
  clipped = All-map (λ (t : PositiveTerm). t.coef ≤ s.degree) (capped_term s.most) row.terms (λ k d h. omega (arith, within.clipped));
}

-- the form with its rows as they are counted is normal too
pub counted-normal : (form : NormalForm) (ss : List Saturation) (root : ℕ) (trail : List Literal) → IsNormal form → AreSaturations form ss root trail → IsNormal (counted_form ss form)
counted-normal form ss root trail normal are = record {
  shape = record {
    rows = λ r d h. (let short = is_short r h in subst (IsPositiveRow form.vars) (sym (counted-at ss form.rows r d are.count short)) (counted-positive form.vars (row_at form.rows r) (saturation_at ss r) (are.within r short) (normal.shape.rows r _ short)));
    objective = normal.shape.objective;
  };
  limits = record {
    row_count = omega (arith, length-counted ss form.rows are.count, normal.limits.row_count);
    rows = λ r d h. (let short = is_short r h in
        let sums : HasSmallSums (row_at form.rows r) = normal.limits.rows r _ short in
        let small : HasSmallSums (counted_row (saturation_at ss r) (row_at form.rows r)) = (omega (arith, (are.within r short).less, sums.0), omega (arith, capped-total (saturation_at ss r).most (row_at form.rows r).terms, sums.1)) in
        subst HasSmallSums (sym (counted-at ss form.rows r d are.count short)) small);
    lowest = normal.limits.lowest;
    coefficients = normal.limits.coefficients;
    highest = normal.limits.highest;
  };
}
  where
    is_short : (r : ℕ) → r < length (counted_rows ss form.rows) → r < length form.rows
    is_short r h = omega (arith, length-counted ss form.rows are.count)

-- even with capped coefficients, an assignment that agrees with the trail reaches at least what the trail does plus the rest of its uncapped value, up to the cap
met-rest : (a : List Bool) (trail : List Literal) (most : ℕ) (terms : List PositiveTerm) → All (λ (l : Literal). literal_value a l ≡ 1) trail → reached trail (capped most terms) + min most (positive_value a terms - reached trail terms) ≤ positive_value a (capped most terms)
unfolding reached
met-rest a trail most [] makes = omega arith
met-rest a trail most (t ∷ terms) makes =
    let on : PositiveTerm → ℕ = λ u. cond (is_true trail u.lit) u.coef 0 in
    let worth : PositiveTerm → ℕ = λ u. u.coef * literal_value a u.lit in
    let rest = met-rest a trail most terms makes in
    by_value (is_true trail t.lit) (literal_value a t.lit) t.coef (sum_by on (capped most terms)) (sum_by on terms) (sum_by worth terms) (sum_by worth (capped most terms))
    (sum_by on (capped most (t ∷ terms))) (sum_by on (t ∷ terms)) (sum_by worth (t ∷ terms)) (sum_by worth (capped most (t ∷ terms)))
    (omega (arith, literal_value-negation a t.lit))
    (true_in_completion a trail t.lit makes)
    (sum_by-cons on (capped_term most t) (capped most terms)) (sum_by-cons on t terms) (sum_by-cons worth t terms) (sum_by-cons worth (capped_term most t) (capped most terms))
    rest
  where
    by_value : (b : Bool) (v n oc o w wc oc' o' w' wc' : ℕ) → v ≤ 1 → (b ≡ true → v ≡ 1) → oc' ≡ cond b (min n most) 0 + oc → o' ≡ cond b n 0 + o → w' ≡ n * v + w → wc' ≡ min n most * v + wc → oc + min most (w - o) ≤ wc → oc' + min most (w' - o') ≤ wc'
    by_value true v n oc o w wc oc' o' w' wc' few one a1 a2 a3 a4 h =
        let is : v ≡ 1 = one refl in
        let whole : n * v ≡ n = rw is (omega arith) in
        let part : min n most * v ≡ min n most = rw is (omega arith) in
        omega arith
    by_value false zero n oc o w wc oc' o' w' wc' few one a1 a2 a3 a4 h =
        let whole : n * zero ≡ 0 = omega arith in
        let part : min n most * zero ≡ 0 = omega arith in
        omega arith
    by_value false (suc zero) n oc o w wc oc' o' w' wc' few one a1 a2 a3 a4 h =
        let whole : n * suc zero ≡ n = omega arith in
        let part : min n most * suc zero ≡ min n most = omega arith in
        omega arith
    by_value false (suc (suc v)) n oc o w wc oc' o' w' wc' few one a1 a2 a3 a4 h = absurd (omega arith)

-- so it meets the row as it is counted
pub met-as-counted : (a : List Bool) (trail : List Literal) (row : PositiveRow) → All (λ (l : Literal). literal_value a l ≡ 1) trail → MeetsRow a row → MeetsRow a (counted_row (saturation_of trail row) row)
met-as-counted a trail row makes meets =
    let rest = met-rest a trail (left_of trail row) row.terms makes in
    omega arith

-- the beginning of the trail stays where a literal is put on it, and where one after it is taken off
pub saturations-push : (form : NormalForm) (ss : List Saturation) (root : ℕ) (trail new : List Literal) (l : Literal) → new ≡ trail ++ l ∷ [] → AreSaturations form ss root trail → AreSaturations form ss root new
saturations-push form ss root trail new l is are = rw is (record {
  count = are.count;
  within = are.within;
  on_trail = omega (arith, are.on_trail, length-append trail (l ∷ []));
  met = λ a whole. are.met a (subst (λ (lits : List Literal). IsCompletion form.rows lits a) (take-append-le root trail (l ∷ []) are.on_trail) whole);
})

pub saturations-pop : (form : NormalForm) (ss : List Saturation) (root : ℕ) (trail front : List Literal) (l : Literal) → trail ≡ front ++ l ∷ [] → root < length trail → AreSaturations form ss root trail → AreSaturations form ss root front
saturations-pop form ss root trail front l is below are =
    let low : root ≤ length front = omega (arith, ap (λ (lits : List Literal). length lits) is, length-append front (l ∷ [])) in
    let same : take root trail ≡ take root front = ap (take root) is ∙ take-append-le root front (l ∷ []) low in
    record {
      count = are.count;
      within = are.within;
      on_trail = low;
      met = λ a whole. are.met a (subst (λ (lits : List Literal). IsCompletion form.rows lits a) (sym same) whole);
    }

-- rows that are counted as they are stand on nothing
pub saturations-whole : (form : NormalForm) (ss : List Saturation) (trail : List Literal) → AreWhole form.rows ss → IsNormal form → AreSaturations form ss 0 trail
saturations-whole form ss trail are normal = record {
  count = ap (λ (xs : List Saturation). length xs) are ∙ length-map form.rows whole;
  within = λ r h.
      (let at : saturation_at ss r ≡ whole (row_at form.rows r) = ap (λ (xs : List Saturation). saturation_at xs r) are ∙ get_or-map whole form.rows r (record { terms = []; degree = 0 }) (record { most = 0; degree = 0 }) h in
      let shape = normal.shape.rows r (record { terms = []; degree = 0 }) h in
      subst (IsWithinRow (row_at form.rows r)) (sym at) (record { some = shape.degree; clipped = omega arith; less = omega arith }));
  on_trail = omega arith;
  met = λ a whole. subst (MeetsRows a) (sym (counted-wholes form.rows ss form.vars are normal.shape.rows)) whole.meets_rows;
}

-- what a trail reaches of no terms, and of one more
pub reached-none : (trail : List Literal) → reached trail [] ≡ 0
unfolding reached
reached-none trail = refl

pub reached-push : (trail : List Literal) (terms : List PositiveTerm) (t : PositiveTerm) → reached trail (terms ++ t ∷ []) ≡ reached trail terms + cond (is_true trail t.lit) t.coef 0
unfolding reached
reached-push trail terms t = sum_by_push (λ (u : PositiveTerm). cond (is_true trail u.lit) u.coef 0) terms t

-- one term further
pub reached-next : (trail : List Literal) (most : ℕ) (terms : List PositiveTerm) (i : ℕ) (t : PositiveTerm) → i < length terms → t ≡ get_or terms i t → reached trail (capped most (take (i + 1) terms)) ≡ reached trail (capped most (take i terms)) + cond (is_true trail t.lit) (min t.coef most) 0
reached-next trail most terms i t h read =
    ap (reached trail) (map_more (capped_term most) terms i t h)
    ∙ (reached-push trail (capped most (take i terms)) (capped_term most (get_or terms i t)) ∙ ap (λ (u : PositiveTerm). reached trail (capped most (take i terms)) + cond (is_true trail u.lit) (min u.coef most) 0) (sym read))

-- a trail reaches no more with capped coefficients than without
pub reached-capped : (trail : List Literal) (most : ℕ) (terms : List PositiveTerm) → reached trail (capped most terms) ≤ reached trail terms
unfolding reached
reached-capped trail most [] = omega arith
reached-capped trail most (t ∷ terms) =
    let on : PositiveTerm → ℕ = λ u. cond (is_true trail u.lit) u.coef 0 in
    omega (arith, reached-capped trail most terms, pick (is_true trail t.lit) t.coef, sum_by-cons on t terms, sum_by-cons on (capped_term most t) (capped most terms))
  where
    pick : (b : Bool) (n : ℕ) → cond b (min n most) 0 ≤ cond b n 0
    pick true n = omega arith
    pick false n = omega arith

-- a trail reaches no more of the first terms than of all
pub reached-most : (trail : List Literal) (most : ℕ) (terms : List PositiveTerm) (i : ℕ) → reached trail (capped most (take i terms)) ≤ reached trail terms
unfolding reached
reached-most trail most terms i = omega (arith, reached-capped trail most (take i terms), sum_by-take-le (λ (u : PositiveTerm). cond (is_true trail u.lit) u.coef 0) terms i)

-- no trail without contradiction makes both a literal and its negation true
one_value : (trail : List Literal) (n v : ℕ) → IsConsistent trail → n ≤ length trail → is_true (take n trail) (lit v true) ≡ true → is_true (take n trail) (lit v false) ≡ true → ⊥
one_value trail zero v consistent within plain negated = (let none = is_true-nil (lit v true) in let e : false ≡ true = sym none ∙ plain in let wrong : ⊥ = cc in wrong)
one_value trail (suc n) v consistent within plain negated =
    let d : Literal = lit 0 true in
    let l = get_or trail n d in
    let front = take n trail in
    let grown : take (suc n) trail ≡ front ++ l ∷ [] = take-suc trail n d (omega arith) in
    let free : value_on front l.var ≡ None = consistent n d (omega arith) in
    let before = one_value trail n v consistent (omega arith) in
    by_cases (is_true front (lit v true)) (is_true front (lit v false)) (same_literal (lit v true) l) (same_literal (lit v false) l)
    (sym (ap (λ (xs : List Literal). is_true xs (lit v true)) grown ∙ is_true-push front l (lit v true)) ∙ plain)
    (sym (ap (λ (xs : List Literal). is_true xs (lit v false)) grown ∙ is_true-push front l (lit v false)) ∙ negated)
    before
    (λ same. (let at = ap (λ (m : Literal). m.var) (same_literal-is (lit v true) l same) in no_value front v (ap (value_on front) at ∙ free) false))
    (λ same. (let at = ap (λ (m : Literal). m.var) (same_literal-is (lit v false) l same) in no_value front v (ap (value_on front) at ∙ free) true))
    (λ one other. (let is : lit v true ≡ lit v false = same_literal-is (lit v true) l one ∙ sym (same_literal-is (lit v false) l other) in let signs : true ≡ false = ap (λ (m : Literal). m.positive) is in let wrong : ⊥ = cc in wrong))
  where
    by_cases : (t f p q : Bool) → (t || p) ≡ true → (f || q) ≡ true → (t ≡ true → f ≡ true → ⊥) → (p ≡ true → f ≡ false) → (q ≡ true → t ≡ false) → (p ≡ true → q ≡ true → ⊥) → ⊥
    by_cases t f p q plain negated both first second last = elim (or_cases t p plain) [
      | inl t_is ↦ elim (or_cases f q negated) [
        | inl f_is ↦ both t_is f_is
        | inr q_is ↦ (let isnt = second q_is in let wrong : ⊥ = cc in wrong)
      ]
      | inr p_is ↦ elim (or_cases f q negated) [
        | inl f_is ↦ (let isnt = first p_is in let wrong : ⊥ = cc in wrong)
        | inr q_is ↦ last p_is q_is
      ]
    ]

-- whether the trail makes a literal true is told by its variable's value
pub true_by_value : (trail : List Literal) (l : Literal) (b : Bool) → IsConsistent trail → value_on trail l.var ≡ Some b → beq b l.positive ≡ is_true trail l
true_by_value trail l b consistent value = by_cases (is_true trail (lit l.var true)) (is_true trail (lit l.var false)) l.positive b (λ plain negated. one_value trail (length trail) l.var consistent (omega arith) (whole (lit l.var true) plain) (whole (lit l.var false) negated)) value ∙ sym (either l.positive)
  where
    whole : (m : Literal) → is_true trail m ≡ true → is_true (take (length trail) trail) m ≡ true
    whole m on = ap (λ (xs : List Literal). is_true xs m) (take_all (length trail) trail (omega arith)) ∙ on

    either : (p : Bool) → is_true trail (lit l.var p) ≡ cond p (is_true trail (lit l.var true)) (is_true trail (lit l.var false))
    either true = refl
    either false = refl

    by_cases : (t f p b : Bool) → (t ≡ true → f ≡ true → ⊥) → cond t (Some true) (cond f (Some false) None) ≡ Some b → beq b p ≡ cond p t f
    by_cases true true p b both value = absurd (both refl refl)
    by_cases true false true true both value = refl
    by_cases true false false true both value = refl
    by_cases true false p false both value = absurd (let wrong : ⊥ = cc in wrong)
    by_cases false true true false both value = refl
    by_cases false true false false both value = refl
    by_cases false true p true both value = absurd (let wrong : ⊥ = cc in wrong)
    by_cases false false p b both value = absurd (let wrong : ⊥ = cc in wrong)

-- one term further where no coefficient is capped
pub reached-step : (trail : List Literal) (terms : List PositiveTerm) (i : ℕ) (t : PositiveTerm) → i < length terms → t ≡ get_or terms i t → reached trail (take (i + 1) terms) ≡ reached trail (take i terms) + cond (is_true trail t.lit) t.coef 0
reached-step trail terms i t h read =
    ap (reached trail) (take_more terms i t h)
    ∙ (reached-push trail (take i terms) (get_or terms i t) ∙ ap (λ (u : PositiveTerm). reached trail (take i terms) + cond (is_true trail u.lit) u.coef 0) (sym read))
