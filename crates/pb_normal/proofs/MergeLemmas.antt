-- The steps of merging: two terms are joined, and a term is added to the positive terms.
use Rattle.std.proofs.Common.{◌≡◌, ℕ, ℤ, zero, suc, ◌+◌, ◌-◌, ◌*◌, ◌<◌, ◌≤◌, List, [], ◌∷◌, ◌++◌, length, get_or, set, map, take, drop, refl, sym, ◌∙◌, ap, subst, arith, Bool, true, false, cond, not, All, FitsSigned}
use Rattle.std.specs.Prelude.{Some, AllPairs, pos, negsuc, ◌+ℤ◌, ◌*ℤ◌, ◌≤ℤ◌, ◌<ℤ◌, unsigned_abs}
use Rattle.std.specs.List.Sorted.{IsNonDecreasingBy}
use Rattle.std.proofs.lemmas.Int.{ints, fits_signed_from_abs}
use Rattle.std.proofs.lemmas.List.{length_push, length-take, take_all, get_or_append_left, get_or_push, get_or_read}
use Rattle.std.proofs.lemmas.List.Edits.{map_over_more}
use Rattle.std.proofs.lemmas.List.Elements.{All-nil, All-push, All-pop, All-weaker}
use Rattle.std.proofs.lemmas.List.Quantifiers.{all_pairs_push}
use Rattle.std.proofs.lemmas.List.Sums.{sum_by_push}
use Rattle.pb_inst.specs.Literal.{Literal}
use Rattle.pb_inst.specs.Limits.{total_magnitude, AllVariablesWithin}
use Rattle.pb_inst.specs.declared.limits.TheConstants.{SUM_BOUND}
use Rattle.pb_inst.proofs.NumberWidth.{number_width}
use Rattle.pb_inst.specs.Meaning.{variable_value, literal_value}
use Rattle.pb_inst.specs.declared.constraints.Term.{Term}
use Rattle.pb_inst.proofs.SumLemmas.{sum_value_more, total_magnitude-take, total_magnitude_more, unsigned_abs-add}
use Rattle.pb_normal.specs.declared.terms.PositiveTerm.{PositiveTerm}
use Rattle.pb_normal.specs.NormalForm.{positive_value, total_coefficient, ArePositiveTerms}
use Rattle.pb_normal.specs.Merging.{NoneAfter, AreJoined, AddsNonzero, AddsPositive, AddsTerm, HasValueOf, opposite}
use Rattle.pb_normal.proofs.LiteralLemmas.{lit, term}

abbrev pub IsBelow : PositiveTerm → PositiveTerm → Type 0
IsBelow t u = t.lit.var < u.lit.var

abbrev pub IsWithin : ℕ → PositiveTerm → Type 0
IsWithin n t = (1 ≤ t.lit.var) × (t.lit.var ≤ n)

abbrev pub HasCoefficient : PositiveTerm → Type 0
HasCoefficient t = 1 ≤ t.coef

-- literals of one variable with one sign, and with two signs
pub same_value : (a : List Bool) (l m : Literal) → l.var ≡ m.var → l.positive ≡ m.positive → literal_value a m ≡ literal_value a l
same_value a l m var sign =
    ap (λ (v : ℕ). cond m.positive (variable_value a v) (1 - variable_value a v)) (sym var) ∙ ap (λ (p : Bool). cond p (variable_value a l.var) (1 - variable_value a l.var)) (sym sign)

two_signs : (p v : Bool) → cond p (cond v 1 0) (1 - cond v 1 0) + cond (not p) (cond v 1 0) (1 - cond v 1 0) ≡ 1
two_signs true true = refl
two_signs true false = refl
two_signs false true = refl
two_signs false false = refl

pub opposite_values : (a : List Bool) (l m : Literal) → l.var ≡ m.var → m.positive ≡ not l.positive → literal_value a l + literal_value a m ≡ 1
opposite_values a l m var sign =
    let n : Literal = record { var = l.var; positive = not l.positive } in
    let same = same_value a n m var (sym sign) in
    let sum = two_signs l.positive (get_or a (l.var - 1) false) in
    ap (λ (v : ℕ). literal_value a l + v) same ∙ sum

-- the terms before the last one are positive, and below it
rest_rising : (rest : List PositiveTerm) (last : PositiveTerm) → AllPairs IsBelow (rest ++ last ∷ []) → AllPairs IsBelow rest
rest_rising rest last all = λ i j d before less.
    (let count = length_push rest last in
    let low = ap (λ (t : PositiveTerm). t.lit.var) (get_or_append_left rest (last ∷ []) d i (omega arith)) in
    let high = ap (λ (t : PositiveTerm). t.lit.var) (get_or_append_left rest (last ∷ []) d j less) in
    let rises = all i j d before (omega arith) in
    omega arith)

rest_below : (rest : List PositiveTerm) (last : PositiveTerm) → AllPairs IsBelow (rest ++ last ∷ []) → All (λ t. t.lit.var < last.lit.var) rest
rest_below rest last all = λ k d less.
    (let count = length_push rest last in
    let low = ap (λ (t : PositiveTerm). t.lit.var) (get_or_append_left rest (last ∷ []) d k less) in
    let high = ap (λ (t : PositiveTerm). t.lit.var) (get_or_push rest last d (length rest) refl) in
    let rises = all k (length rest) d less (omega arith) in
    omega arith)

rest_positive : (n : ℕ) (rest : List PositiveTerm) (last : PositiveTerm) → ArePositiveTerms n (rest ++ last ∷ []) → ArePositiveTerms n rest
rest_positive n rest last h = record {
  coefficients = (All-pop HasCoefficient (rest ++ last ∷ []) rest (Some last) refl h.coefficients).0;
  variables = (All-pop (IsWithin n) (rest ++ last ∷ []) rest (Some last) refl h.variables).0;
  rising = rest_rising rest last h.rising;
}

no_terms : (ts : List PositiveTerm) → length ts ≡ 0 → ts ≡ []
no_terms [] h = refl
no_terms (t ∷ ts) h = absurd (omega arith)

no_end : (ts : List PositiveTerm) → ts ≡ ts ++ []
no_end [] = refl
no_end (t ∷ ts) = ap (λ (us : List PositiveTerm). t ∷ us) (no_end ts)

-- a term of coefficient 0 adds nothing
pub add_none : (old : List PositiveTerm) (t : PositiveTerm) → t.coef ≡ 0 → AddsNonzero old t old
add_none old t none = record {
  count = omega arith;
  value = λ a. (let nothing : t.coef * literal_value a t.lit ≡ 0 * literal_value a t.lit = ap (λ (c : ℕ). c * literal_value a t.lit) none in omega arith);
  total = omega arith;
  none_after = λ h. h;
  positive = λ n h below within. h;
}

-- a term of another coefficient stands at the end
pub add_last : (old new : List PositiveTerm) (t : PositiveTerm) → new ≡ old ++ t ∷ [] → 1 ≤ t.coef → AddsNonzero old t new
add_last old new t is one = rw is (record {
  count = (let more = length_push old t in omega arith);
  value = λ a. sum_by_push (λ (u : PositiveTerm). u.coef * literal_value a u.lit) old t;
  total = sum_by_push (λ (u : PositiveTerm). u.coef) old t;
  none_after = λ h. All-push (λ (u : PositiveTerm). u.lit.var ≤ t.lit.var) old t h (omega arith);
  positive = λ n h below within. record {
    coefficients = All-push HasCoefficient old t h.coefficients one;
    variables = All-push (IsWithin n) old t h.variables within;
    rising = all_pairs_push IsBelow old t h.rising (λ k d less. below k d less);
  };
})

-- nothing stood there before
pub add_to_none : (old rest new : List PositiveTerm) (t : PositiveTerm) → old ≡ rest ++ [] → length old ≡ 0 → AddsNonzero rest t new → AddsPositive old t 0 new
add_to_none old rest new t is none added = let adds : AddsNonzero old t new = subst (λ (ts : List PositiveTerm). AddsNonzero ts t new) (no_end rest ∙ sym is) added in
    let empty : old ≡ [] = no_terms old none in
    record {
      count = subst (λ (ts : List PositiveTerm). length new ≤ length ts + 1) (no_end rest ∙ sym is) added.count;
      value = λ a. (let v = adds.value a in omega arith);
      total = (let h = adds.total in omega arith);
      small = omega arith;
      none_after = adds.none_after;
      positive = λ n h _ within. adds.positive n h (subst (λ (ts : List PositiveTerm). All (λ u. u.lit.var < t.lit.var) ts) (sym empty) (All-nil (λ (u : PositiveTerm). u.lit.var < t.lit.var))) within;
    }

-- the last term is of another variable
pub add_after : (old rest pushed new : List PositiveTerm) (last t : PositiveTerm) → old ≡ rest ++ last ∷ [] → pushed ≡ rest ++ last ∷ [] → (last.lit.var ≡ t.lit.var → ⊥) → AddsNonzero pushed t new → AddsPositive old t 0 new
add_after old rest pushed new last t is pushed_is other added = let adds : AddsNonzero old t new = subst (λ (ts : List PositiveTerm). AddsNonzero ts t new) (pushed_is ∙ sym is) added in record {
  count = adds.count;
  value = λ a. (let v = adds.value a in omega arith);
  total = (let h = adds.total in omega arith);
  small = omega arith;
  none_after = adds.none_after;
  positive = λ n h none within. adds.positive n h (below n h none) within;
}
  where
    below : (n : ℕ) → ArePositiveTerms n old → NoneAfter t.lit.var old → All (λ u. u.lit.var < t.lit.var) old
    below n h none =
        let split : ArePositiveTerms n (rest ++ last ∷ []) = subst (λ (ts : List PositiveTerm). ArePositiveTerms n ts) is h in
        let all : NoneAfter t.lit.var (rest ++ last ∷ []) = subst (λ (ts : List PositiveTerm). NoneAfter t.lit.var ts) is none in
        let at_last : last.lit.var ≤ t.lit.var = (All-pop (λ (u : PositiveTerm). u.lit.var ≤ t.lit.var) (rest ++ last ∷ []) rest (Some last) refl all).1 in
        let less : last.lit.var < t.lit.var = omega arith in
        let before : All (λ u. u.lit.var < t.lit.var) rest = All-weaker (λ (u : PositiveTerm). u.lit.var < last.lit.var) (λ (u : PositiveTerm). u.lit.var < t.lit.var) (λ u h. omega arith) rest (rest_below rest last split.rising) in
        subst (λ (ts : List PositiveTerm). All (λ u. u.lit.var < t.lit.var) ts) (sym is) (All-push (λ (u : PositiveTerm). u.lit.var < t.lit.var) rest last before less)

-- the last term is of the same variable
pub add_joined : (old rest new : List PositiveTerm) (last t joined : PositiveTerm) (constant : ℕ) → old ≡ rest ++ last ∷ [] → last.lit.var ≡ t.lit.var → AreJoined last t joined constant → AddsNonzero rest joined new → AddsPositive old t constant new
add_joined old rest new last t joined constant is var join adds = rw is (record {
  count = (let h = adds.count in let more = length_push rest last in omega arith);
  value = λ a. (let v = adds.value a in
      let j = join.value a in
      let s = sum_by_push (λ (u : PositiveTerm). u.coef * literal_value a u.lit) rest last in
      omega arith);
  total = (let h = adds.total in
      let j = join.total in
      let s = sum_by_push (λ (u : PositiveTerm). u.coef) rest last in
      omega arith);
  small = join.small;
  none_after = λ h. none h;
  positive = λ n h _ within. positive n h within;
})
  where
    none : NoneAfter t.lit.var (rest ++ last ∷ []) → NoneAfter t.lit.var new
    none h =
        let before : NoneAfter t.lit.var rest = (All-pop (λ (u : PositiveTerm). u.lit.var ≤ t.lit.var) (rest ++ last ∷ []) rest (Some last) refl h).0 in
        let at : NoneAfter joined.lit.var rest = subst (λ (v : ℕ). NoneAfter v rest) (sym join.variable) before in
        subst (λ (v : ℕ). NoneAfter v new) join.variable (adds.none_after at)

    positive : (n : ℕ) → ArePositiveTerms n (rest ++ last ∷ []) → (1 ≤ t.lit.var) × (t.lit.var ≤ n) → ArePositiveTerms n new
    positive n h within =
        let same : last.lit.var ≡ joined.lit.var = var ∙ sym join.variable in
        let below : All (λ u. u.lit.var < joined.lit.var) rest = subst (λ (v : ℕ). All (λ (u : PositiveTerm). u.lit.var < v) rest) same (rest_below rest last h.rising) in
        adds.positive n (rest_positive n rest last h) below (subst (λ (v : ℕ). (1 ≤ v) × (v ≤ n)) (sym join.variable) within)

-- a negative coefficient: the term goes to the negated literal
negative_value : (m new k old v w : ℕ) → v + w ≡ 1 → new + k ≡ old + suc m * w → pos new +ℤ (negsuc m +ℤ pos k) ≡ pos old +ℤ (negsuc m *ℤ pos v)
negative_value m new k old zero w one h =
    let at : w ≡ 1 = omega arith in
    let sum : new + k ≡ old + suc m * 1 = h ∙ ap (λ (n : ℕ). old + suc m * n) at in
    omega (arith, ints)
negative_value m new k old (suc zero) w one h =
    let at : w ≡ 0 = omega arith in
    let sum : new + k ≡ old + suc m * 0 = h ∙ ap (λ (n : ℕ). old + suc m * n) at in
    omega (arith, ints)
negative_value m new k old (suc (suc v)) w one h = absurd (omega arith)

negative_part : (c : ℤ) (new k old v w : ℕ) → c <ℤ pos 0 → v + w ≡ 1 → new + k ≡ old + unsigned_abs c * w → pos new +ℤ (c +ℤ pos k) ≡ pos old +ℤ (c *ℤ pos v)
negative_part (pos n) new k old v w less one h = absurd (omega (arith, ints))
negative_part (negsuc m) new k old v w less one h = negative_value m new k old v w one h

negative_limits : (c : ℤ) (new k old : ℕ) → c <ℤ pos 0 → k ≤ unsigned_abs c → new + k ≤ old + unsigned_abs c → ((pos new +ℤ (c +ℤ pos k)) ≤ℤ pos (old + unsigned_abs c)) × (unsigned_abs (c +ℤ pos k) ≤ unsigned_abs c)
negative_limits (pos n) new k old less small h = absurd (omega (arith, ints))
negative_limits (negsuc m) new k old less small h = (omega (arith, ints), omega (arith, ints))

pub add_negative : (old new : List PositiveTerm) (t : Term) (u : PositiveTerm) (k : ℕ) (shift : ℤ) → t.coef <ℤ pos 0 → u.coef ≡ unsigned_abs t.coef → u.lit.var ≡ t.lit.var → u.lit.positive ≡ not t.lit.positive → AddsPositive old u k new → shift ≡ t.coef +ℤ pos k → AddsTerm old t shift new
add_negative old new t u k shift less coef var sign adds is =
    let total : total_coefficient new + k ≤ total_coefficient old + unsigned_abs t.coef = (let h = adds.total in omega arith) in
    let small : k ≤ unsigned_abs t.coef = (let h = adds.small in omega arith) in
    let limits = negative_limits t.coef (total_coefficient new) k (total_coefficient old) less small total in
    rw is (record {
      count = adds.count;
      value = λ a.
          (let one = opposite_values a t.lit u.lit (sym var) sign in
          let sum : positive_value a new + k ≡ positive_value a old + unsigned_abs t.coef * literal_value a u.lit = adds.value a ∙ ap (λ (c : ℕ). positive_value a old + c * literal_value a u.lit) coef in
          negative_part t.coef (positive_value a new) k (positive_value a old) (literal_value a t.lit) (literal_value a u.lit) less one sum);
      highest = limits.0;
      total = omega arith;
      small = limits.1;
      none_after = λ h. subst (λ (v : ℕ). NoneAfter v new) var (adds.none_after (subst (λ (v : ℕ). NoneAfter v old) (sym var) h));
      positive = λ n h none within. adds.positive n h (subst (λ (v : ℕ). NoneAfter v old) (sym var) none) (subst (λ (v : ℕ). (1 ≤ v) × (v ≤ n)) (sym var) within);
    })

-- what holds after the first i of the sorted terms
pub record MergesTo (terms : List Term) (i : ℕ) (base : ℤ) (merged : List PositiveTerm) : Type 0 where
  pub value : HasValueOf (take i terms) base merged
  pub positive : (n : ℕ) → AllVariablesWithin n terms → ArePositiveTerms n merged
  pub none_after : (k : ℕ) (d : Term) → i ≤ k → k < length terms → NoneAfter (get_or terms k d).lit.var merged

-- no term
pub merges_none : (terms : List Term) (merged : List PositiveTerm) → merged ≡ [] → MergesTo terms 0 (pos 0) merged
merges_none terms merged none = rw none (record {
  value = record { value = λ a. refl; lowest = omega arith; total = omega arith; highest = omega (arith, ints); count = omega arith };
  positive = λ n within. record { coefficients = All-nil HasCoefficient; variables = All-nil (IsWithin n); rising = λ i j d before less. absurd (omega arith) };
  none_after = λ k d above below. All-nil (λ (u : PositiveTerm). u.lit.var ≤ (get_or terms k d).lit.var);
})

-- all terms
pub merges_all : (terms : List Term) (i : ℕ) (base : ℤ) (merged : List PositiveTerm) → length terms ≤ i → MergesTo terms i base merged → HasValueOf terms base merged
merges_all terms i base merged all h = subst (λ (ts : List Term). HasValueOf ts base merged) (take_all i terms all) h.value

-- the sums of one more term are within the bound
pub room_for_term : (terms : List Term) (i : ℕ) (t : Term) (base : ℤ) (merged : List PositiveTerm) → i < length terms → t ≡ get_or terms i t → total_magnitude terms ≤ SUM_BOUND → MergesTo terms i base merged → total_coefficient merged + unsigned_abs t.coef ≤ SUM_BOUND
room_for_term terms i t base merged less is bounded before =
    let more = total_magnitude_more terms i t less is in
    let part = total_magnitude-take terms (i + 1) in
    let most = before.value.total in
    omega arith

pub shift_fits : (terms : List Term) (i : ℕ) (t : Term) (base shift : ℤ) (old new : List PositiveTerm) → i < length terms → t ≡ get_or terms i t → total_magnitude terms ≤ SUM_BOUND → MergesTo terms i base old → AddsTerm old t shift new → FitsSigned number_width shift × FitsSigned number_width (base +ℤ shift)
shift_fits terms i t base shift old new less is bounded before adds =
    let more = total_magnitude_more terms i t less is in
    let part = total_magnitude-take terms (i + 1) in
    let low = before.value.lowest in
    let small = adds.small in
    let both = unsigned_abs-add base shift in
    (fits_signed_from_abs number_width shift (omega arith), fits_signed_from_abs number_width (base +ℤ shift) (omega arith))

pub merge_step : (terms : List Term) (i : ℕ) (t : Term) (base shift next : ℤ) (old new : List PositiveTerm) → IsNonDecreasingBy (λ (u : Term). u.lit.var) terms → i < length terms → t ≡ get_or terms i t → MergesTo terms i base old → AddsTerm old t shift new → next ≡ base +ℤ shift → MergesTo terms (i + 1) next new
merge_step terms i t base shift next old new sorted less is before adds step =
    let size = total_magnitude_more terms i t less is in
    let low = before.value.lowest in
    let high = before.value.highest in
    let most = before.value.total in
    let small = adds.small in
    let most_next = adds.total in
    let high_next = adds.highest in
    let both = unsigned_abs-add base shift in
    let none : NoneAfter t.lit.var old = subst (λ (u : Term). NoneAfter u.lit.var old) (sym is) (before.none_after i t (omega arith) less) in
    rw step (record {
      value = record {
        value = λ a.
            (let now = adds.value a in
            let so_far = before.value.value a in
            let more = sum_value_more a terms i t less is in
            omega (arith, ints));
        lowest = omega arith;
        total = omega arith;
        highest = omega (arith, ints);
        count = (let h = adds.count in let so_far = before.value.count in let upto = length-take (i + 1) terms in let upto_before = length-take i terms in omega arith);
      };
      positive = λ n within. adds.positive n (before.positive n within) none (subst (λ (u : Term). (1 ≤ u.lit.var) × (u.lit.var ≤ n)) (sym is) (within i t less));
      none_after = λ k d above below.
          (let rises : (get_or terms i d).lit.var ≤ (get_or terms k d).lit.var = sorted i k d (omega arith) below in
          let at : t.lit.var ≡ (get_or terms i d).lit.var = ap (λ (u : Term). u.lit.var) (get_or_read terms i t less is d) in
          All-weaker (λ (u : PositiveTerm). u.lit.var ≤ t.lit.var) (λ (u : PositiveTerm). u.lit.var ≤ (get_or terms k d).lit.var) (λ u h. omega arith) new (adds.none_after none));
    })

-- one more literal is negated in place
pub negate_step : (xs ys : List PositiveTerm) (i : ℕ) (t : PositiveTerm) (l : Literal) → i < length xs → ys ≡ map opposite (take i xs) ++ drop i xs → t ≡ get_or ys i t → l.var ≡ (get_or ys i t).lit.var → l.positive ≡ not (get_or ys i t).lit.positive → set ys i (record { coef = (get_or ys i t).coef; lit = l }) ≡ map opposite (take (i + 1) xs) ++ drop (i + 1) xs
negate_step xs ys i t l less so_far is var sign =
    let same : term (get_or ys i t).coef (lit l.var l.positive) ≡ term t.coef (lit t.lit.var (not t.lit.positive)) = cc in
    ap (set ys i) same ∙ map_over_more opposite xs ys i t less so_far is
