-- Going through the terms of a row for its costly literals, and marking its variables.
use Rattle.std.proofs.Common.{◌≡◌, ◌≢◌, ℕ, zero, suc, ◌+◌, ◌-◌, ◌*◌, ◌<◌, ◌≤◌, ◌++◌, List, [], ◌∷◌, length, get_or, set, take, fold, max, min, refl, sym, ◌∙◌, ap, subst, arith, Bool, true, false, not, ◌&&◌, ◌||◌, cond, sum_by, Some, None, Option, inl, inr}
use Rattle.std.specs.Prelude.{nat_lt}
use Rattle.std.proofs.lemmas.Grind.{div_ceil_times}
use Rattle.std.specs.Int.{div_ceil}
use Rattle.std.proofs.lemmas.Bool.{cases_Bool, ltb-true, ltb-false, lt-ltb, le-ltb}
use Rattle.std.proofs.lemmas.List.Elements.{filter_more}
use Rattle.std.proofs.lemmas.List.Folds.{list_any_more, list_any_at}
use Rattle.std.proofs.lemmas.List.Sums.{sum_by-cons, sum_by_push, sum_by_more_le, fold_push, fold_more, sum_by-le-sum_by}
use Rattle.pb_inst.specs.Literal.{Literal}
use Rattle.pb_normal.specs.declared.terms.PositiveTerm.{PositiveTerm}
use Rattle.pb_normal.specs.NormalForm.{PositiveRow, total_coefficient}
use Rattle.pb_normal.proofs.LiteralLemmas.{AreRising}
use Rattle.pb_trail.specs.Trail.{value_on}
use Rattle.pb_trail.proofs.TrailLemmas.{is_true-nil}
use Rattle.pb_row_bound.specs.Offers.{Offer}
use Rattle.pb_row_bound.specs.DisjointRows.{has_cost, is_free, is_costly, costly, greatest, cheapest, top_cost, contribution_of, contribution, need, is_marked, meets_marks, marked_by, is_picked}
use Rattle.pb_row_bound.specs.Deficits.{IsDeficitOf}
use Rattle.pb_row_bound.specs.Offers.{no_offer, offer_with, offer_by, offer_of, offer_joined, contribution_in}
use Rattle.pb_normal.specs.Literals.{weight_of}
use Rattle.pb_row_bound.proofs.BoundLemmas.{reached-le-total}
use Rattle.pb_row_bound.proofs.SpareLemmas.{reached-push}
use Rattle.pb_row_bound.proofs.DisjointBound.{one_each, times_one, ones_suffice}
use Rattle.pb_row_bound.proofs.DisjointLemmas.{AreWithin, number, worth_at_most, at_most_greatest, covered-marked_by, row_contribution, costly-cons, costly-nil}

costly-next : (objective : List PositiveTerm) (trail : List Literal) (terms : List PositiveTerm) (i : ℕ) (d : PositiveTerm) → i < length terms → costly objective trail (take (i + 1) terms) ≡ costly objective trail (take i terms) ++ cond (is_costly objective trail (get_or terms i d).lit) (get_or terms i d ∷ []) []
unfolding costly
costly-next objective trail terms i d h = filter_more (λ (t : PositiveTerm). is_costly objective trail t.lit) terms i d h

costly-at-most : (objective : List PositiveTerm) (trail : List Literal) (terms : List PositiveTerm) → sum_by (λ (t : PositiveTerm). t.coef) (costly objective trail terms) ≤ sum_by (λ (t : PositiveTerm). t.coef) terms
costly-at-most objective trail [] = (let none = ap (λ (ts : List PositiveTerm). sum_by (λ (t : PositiveTerm). t.coef) ts) (costly-nil objective trail) in omega arith)
costly-at-most objective trail (t ∷ terms) =
    let rest = costly-at-most objective trail terms in
    let total = sum_by-cons (λ (u : PositiveTerm). u.coef) t terms in
    by_case (is_costly objective trail t.lit) (ap (λ (ts : List PositiveTerm). sum_by (λ (u : PositiveTerm). u.coef) ts) (costly-cons objective trail t terms)) total rest
  where
    by_case : (b : Bool) → sum_by (λ (u : PositiveTerm). u.coef) (costly objective trail (t ∷ terms)) ≡ sum_by (λ (u : PositiveTerm). u.coef) (cond b (t ∷ costly objective trail terms) (costly objective trail terms)) → sum_by (λ (u : PositiveTerm). u.coef) (t ∷ terms) ≡ t.coef + sum_by (λ (u : PositiveTerm). u.coef) terms → sum_by (λ (u : PositiveTerm). u.coef) (costly objective trail terms) ≤ sum_by (λ (u : PositiveTerm). u.coef) terms → sum_by (λ (u : PositiveTerm). u.coef) (costly objective trail (t ∷ terms)) ≤ sum_by (λ (u : PositiveTerm). u.coef) (t ∷ terms)
    by_case true is total rest = omega (arith, sum_by-cons (λ (u : PositiveTerm). u.coef) t (costly objective trail terms))
    by_case false is total rest = omega arith

-- the total so far and the next coefficient are within all coefficients
pub offer-fits : (start : ℕ) (objective : List PositiveTerm) (trail : List Literal) (terms : List PositiveTerm) (i : ℕ) (d : PositiveTerm) (offer : Offer) → i < length terms → offer ≡ offer_of start objective trail (take i terms) → offer.total + (get_or terms i d).coef ≤ sum_by (λ (t : PositiveTerm). t.coef) terms
offer-fits start objective trail terms i d offer h is = omega (arith, ap (λ (o : Offer). o.total) is, costly-at-most objective trail (take i terms), sum_by_more_le (λ (t : PositiveTerm). t.coef) terms i d h)

offer_by-push : (start : ℕ) (objective : List PositiveTerm) (terms : List PositiveTerm) (t : PositiveTerm) → offer_by start objective (terms ++ t ∷ []) ≡ offer_with (offer_by start objective terms) t.coef (weight_of t.lit objective)
unfolding greatest cheapest
offer_by-push start objective terms t =
    let total = sum_by_push (λ (u : PositiveTerm). u.coef) terms t in
    let most = fold_push (λ (m : ℕ) (u : PositiveTerm). max m u.coef) 0 terms t in
    let least = fold_push (λ (m : ℕ) (u : PositiveTerm). min m (weight_of u.lit objective)) start terms t in
    rw (total, most, least) refl

pub offer-none : (start : ℕ) (objective : List PositiveTerm) (trail : List Literal) (terms : List PositiveTerm) → no_offer start ≡ offer_of start objective trail (take 0 terms)
unfolding costly greatest cheapest
offer-none start objective trail terms = refl

pub unmet-none : (trail : List Literal) (marks : List Bool) (terms : List PositiveTerm) → meets_marks trail marks (take 0 terms) ≡ false
unfolding meets_marks
unmet-none trail marks terms = refl

meets-next : (trail : List Literal) (marks : List Bool) (terms : List PositiveTerm) (i : ℕ) (d : PositiveTerm) → i < length terms → meets_marks trail marks (take (i + 1) terms) ≡ (meets_marks trail marks (take i terms) || (is_free trail (get_or terms i d).lit && is_marked marks (get_or terms i d).lit))
unfolding meets_marks
meets-next trail marks terms i d h = list_any_more (λ (t : PositiveTerm). is_free trail t.lit && is_marked marks t.lit) terms i d h

meets-at : (trail : List Literal) (marks : List Bool) (terms : List PositiveTerm) (i : ℕ) (d : PositiveTerm) → i < length terms → (is_free trail (get_or terms i d).lit && is_marked marks (get_or terms i d).lit) ≡ true → meets_marks trail marks terms ≡ true
unfolding meets_marks
meets-at trail marks terms i d h on = list_any_at (λ (t : PositiveTerm). is_free trail t.lit && is_marked marks t.lit) terms i d h on

none_of : (objective : List PositiveTerm) (trail : List Literal) (marks : List Bool) (offer : Offer) (t : PositiveTerm) → offer_joined objective trail marks offer t ≡ None → (is_free trail t.lit && is_marked marks t.lit) ≡ true
none_of objective trail marks offer t = by_cases (is_free trail t.lit) (is_marked marks t.lit) (has_cost objective t.lit)
  where
    by_cases : (a b d : Bool) → cond a (cond b None (cond d (Some (offer_with offer t.coef (weight_of t.lit objective))) (Some offer))) (Some offer) ≡ None → (a && b) ≡ true
    by_cases true true d h = refl
    by_cases true false true h = absurd (let none : ⊥ = cc in none)
    by_cases true false false h = absurd (let none : ⊥ = cc in none)
    by_cases false b d h = absurd (let none : ⊥ = cc in none)

-- where a term is over a marked variable the row shares a variable
pub offer-met : (objective : List PositiveTerm) (trail : List Literal) (marks : List Bool) (terms : List PositiveTerm) (i : ℕ) (t : PositiveTerm) (offer : Offer) → i < length terms → t ≡ get_or terms i t → offer_joined objective trail marks offer t ≡ None → meets_marks trail marks terms ≡ true
offer-met objective trail marks terms i t offer h read none =
    meets-at trail marks terms i t h (subst (λ (u : PositiveTerm). (is_free trail u.lit && is_marked marks u.lit) ≡ true) read (none_of objective trail marks offer t none))

some_is : (x y : Offer) → ◌≡◌ {A = Option Offer} (Some x) (Some y) → x ≡ y
some_is x y h = cc

-- one more term
pub offer-next : (start : ℕ) (objective : List PositiveTerm) (trail : List Literal) (marks : List Bool) (terms : List PositiveTerm) (i : ℕ) (t : PositiveTerm) (offer next : Offer) → i < length terms → t ≡ get_or terms i t → offer ≡ offer_of start objective trail (take i terms) → meets_marks trail marks (take i terms) ≡ false → offer_joined objective trail marks offer t ≡ Some next → (next ≡ offer_of start objective trail (take (i + 1) terms)) × (meets_marks trail marks (take (i + 1) terms) ≡ false)
offer-next start objective trail marks terms i t offer next h read is unmet joined =
    let more = costly-next objective trail terms i t h ∙ ap (λ (u : PositiveTerm). costly objective trail (take i terms) ++ cond (is_costly objective trail u.lit) (u ∷ []) []) (sym read) in
    let met = meets-next trail marks terms i t h ∙ (ap (λ (u : PositiveTerm). meets_marks trail marks (take i terms) || (is_free trail u.lit && is_marked marks u.lit)) (sym read) ∙ ap (λ (b : Bool). b || (is_free trail t.lit && is_marked marks t.lit)) unmet) in
    let front = costly objective trail (take i terms) in
    by_cases (is_free trail t.lit) (is_marked marks t.lit) (has_cost objective t.lit) joined more met (ap (offer_by start objective) more)
  where
    append-nil : (xs : List PositiveTerm) → xs ++ [] ≡ xs
    append-nil [] = refl
    append-nil (x ∷ xs) = ap (λ (ys : List PositiveTerm). x ∷ ys) (append-nil xs)

    same : (b : Bool) → b ≡ false → offer_by start objective (costly objective trail (take (i + 1) terms)) ≡ offer_by start objective (costly objective trail (take i terms) ++ cond b (t ∷ []) []) → offer_by start objective (costly objective trail (take (i + 1) terms)) ≡ offer
    same b off whole = whole ∙ (ap (λ (x : Bool). offer_by start objective (costly objective trail (take i terms) ++ cond x (t ∷ []) [])) off ∙ (ap (offer_by start objective) (append-nil (costly objective trail (take i terms))) ∙ sym is))

    by_cases : (a b d : Bool) → cond a (cond b None (cond d (Some (offer_with offer t.coef (weight_of t.lit objective))) (Some offer))) (Some offer) ≡ Some next → costly objective trail (take (i + 1) terms) ≡ costly objective trail (take i terms) ++ cond (a && d) (t ∷ []) [] → meets_marks trail marks (take (i + 1) terms) ≡ (false || (a && b)) → offer_by start objective (costly objective trail (take (i + 1) terms)) ≡ offer_by start objective (costly objective trail (take i terms) ++ cond (a && d) (t ∷ []) []) → (next ≡ offer_of start objective trail (take (i + 1) terms)) × (meets_marks trail marks (take (i + 1) terms) ≡ false)
    by_cases true true d e more met whole = absurd (let none : ⊥ = cc in none)
    by_cases true false true e more met whole =
        (sym (some_is (offer_with offer t.coef (weight_of t.lit objective)) next e) ∙ (ap (λ (o : Offer). offer_with o t.coef (weight_of t.lit objective)) is ∙ (sym (offer_by-push start objective (costly objective trail (take i terms)) t) ∙ sym whole)), met)
    by_cases true false false e more met whole = (sym (some_is offer next e) ∙ sym (same false refl whole), met)
    by_cases false b d e more met whole = (sym (some_is offer next e) ∙ sym (same false refl whole), met)

-- enough literals have some coefficient
pub some-greatest : (objective : List PositiveTerm) (trail : List Literal) (terms : List PositiveTerm) (n : ℕ) → 0 < n → n ≤ sum_by (λ (t : PositiveTerm). t.coef) (costly objective trail terms) → 0 < greatest (costly objective trail terms)
some-greatest objective trail terms n some reach =
    let cs = costly objective trail terms in
    let most = worth_at_most one_each (greatest cs) cs (at_most_greatest cs) in
    let ones = times_one cs in
    positive (greatest cs) (number one_each cs) (omega arith)
  where
    positive : (g q : ℕ) → 0 < g * q → 0 < g
    positive g q h = elim (cases_Bool (nat_lt 0 g)) [
      | inl yes' ↦ ltb-true 0 g yes'
      | inr isnt ↦ (let zero_g : g ≡ 0 = omega (arith, ltb-false 0 g isnt) in let product : g * q ≡ 0 = rw zero_g (omega arith) in absurd (omega arith))
    ]

-- the contribution of a row that shares no variable is at most the whole objective
pub contribution-within : (objective : List PositiveTerm) (trail : List Literal) (marks : List Bool) (row : PositiveRow) → AreRising row.terms → AreWithin (length marks) row.terms → meets_marks trail marks row.terms ≡ false → contribution objective trail row ≤ sum_by (λ (t : PositiveTerm). t.coef) objective
contribution-within objective trail marks row rising within unmet =
    let pays = row_contribution one_each objective trail row (ones_suffice objective (row ∷ []) trail 0 row (omega arith)) in
    let covers = covered-marked_by one_each objective trail row.terms marks rising within unmet in
    let most = sum_by-le-sum_by (λ (t : PositiveTerm). cond (is_marked (marked_by trail marks row.terms) t.lit) (t.coef * one_each t.lit) 0) (λ (t : PositiveTerm). t.coef) objective (λ t. at_most (is_marked (marked_by trail marks row.terms) t.lit) t.coef) in
    omega arith
  where
    at_most : (b : Bool) (n : ℕ) → cond b (n * 1) 0 ≤ n
    at_most true n = omega arith
    at_most false n = omega arith

pub marked_by-next : (trail : List Literal) (marks : List Bool) (terms : List PositiveTerm) (i : ℕ) (t : PositiveTerm) (old new : List Bool) → i < length terms → t ≡ get_or terms i t → old ≡ marked_by trail marks (take i terms) → new ≡ cond (is_free trail t.lit) (set old (t.lit.var - 1) true) old → new ≡ marked_by trail marks (take (i + 1) terms)
unfolding marked_by
marked_by-next trail marks terms i t old new h read was is =
    let step : List Bool → PositiveTerm → List Bool = λ ms u. cond (is_free trail u.lit) (set ms (u.lit.var - 1) true) ms in
    is ∙ (ap (λ (ms : List Bool). step ms t) was ∙ (ap (step (fold step marks (take i terms))) read ∙ sym (fold_more step marks terms i t h)))

pub marked_by-none : (trail : List Literal) (marks : List Bool) (terms : List PositiveTerm) → marks ≡ marked_by trail marks (take 0 terms)
unfolding marked_by
marked_by-none trail marks terms = refl

pub need-is : (limit : ℕ) (objective : List PositiveTerm) (trail : List Literal) (row : PositiveRow) (deficit : ℕ) → IsDeficitOf limit objective trail row deficit → deficit - limit ≡ need objective trail row
need-is limit objective trail row deficit is = omega arith

one_times : (q n g : ℕ) → 0 < n → n ≤ g → n ≤ q * g → q * g < n + g → q ≡ 1
one_times zero n g some fits low high = omega (arith, some, low)
one_times (suc zero) n g some fits low high = refl
one_times (suc (suc k)) n g some fits low high = omega (arith, fits, high)

pub one_is_enough : (offer : Offer) (n : ℕ) → 0 < n → n ≤ offer.total → n ≤ offer.greatest → offer.cheapest ≡ contribution_in offer n
one_is_enough offer n some reach enough =
    let times = div_ceil_times n offer.greatest (omega (arith, some, enough)) in
    let one : div_ceil n offer.greatest ≡ 1 = one_times (div_ceil n offer.greatest) n offer.greatest some enough times.0 times.1 in
    rw (lt-ltb 0 n some, le-ltb offer.total n reach, one) (omega arith)

-- the weight of a literal is what it pays alone on a trail, no more than all coefficients
weight-most : (l : Literal) (terms : List PositiveTerm) → weight_of l terms ≤ total_coefficient terms
weight-most l terms =
    let free : value_on [] l.var ≡ None = rw (is_true-nil (record { var = l.var; positive = true }), is_true-nil (record { var = l.var; positive = false })) refl in
    omega (arith, reached-push [] l terms free, reached-le-total ([] ++ l ∷ []) terms)

-- no start that is above all costs matters where there is a costly literal
cheapest-start : (objective : List PositiveTerm) (start other : ℕ) (t : PositiveTerm) (terms : List PositiveTerm) → weight_of t.lit objective ≤ start → weight_of t.lit objective ≤ other → cheapest objective start (t ∷ terms) ≡ cheapest objective other (t ∷ terms)
unfolding cheapest
cheapest-start objective start other t terms below above = ap (λ (m : ℕ). fold (λ least u. min least (weight_of u.lit objective)) m terms) (same (weight_of t.lit objective) below above)
  where
    same : (w : ℕ) → w ≤ start → w ≤ other → min start w ≡ min other w
    same w below above = omega arith

pub contribution-is : (start : ℕ) (objective : List PositiveTerm) (trail : List Literal) (row : PositiveRow) (offer : Offer) (n : ℕ) → offer ≡ offer_of start objective trail row.terms → n ≡ need objective trail row → total_coefficient objective ≤ start → total_coefficient objective ≤ top_cost → contribution_in offer n ≡ contribution objective trail row
unfolding contribution
contribution-is start objective trail row offer n is needed small fits = ap (λ (o : Offer). contribution_in o n) is ∙ (ap (contribution_in (offer_of start objective trail row.terms)) needed ∙ by_terms (need objective trail row) (costly objective trail row.terms))
  where
    nothing : (k a b : ℕ) → cond (nat_lt 0 k && not (nat_lt 0 k)) a 0 ≡ cond (nat_lt 0 k && not (nat_lt 0 k)) b 0
    nothing k a b = by_case (nat_lt 0 k)
      where
        by_case : (p : Bool) → ◌≡◌ {A = ℕ} (cond (p && not p) a 0) (cond (p && not p) b 0)
        by_case true = refl
        by_case false = refl

    by_terms : (k : ℕ) (terms : List PositiveTerm) → contribution_in (offer_by start objective terms) k ≡ contribution_of objective k terms
    by_terms k [] = nothing k (div_ceil k (greatest []) * cheapest objective start []) (div_ceil k (greatest []) * cheapest objective top_cost [])
    by_terms k (t ∷ terms) =
        let weight = weight-most t.lit objective in
        ap (λ (m : ℕ). cond (nat_lt 0 k && not (nat_lt (total_coefficient (t ∷ terms)) k)) (div_ceil k (greatest (t ∷ terms)) * m) 0) (cheapest-start objective start top_cost t terms (omega arith) (omega arith))

pub not_picked : (objective : List PositiveTerm) (trail : List Literal) (marks : List Bool) (row : PositiveRow) → contribution objective trail row ≡ 0 → is_picked objective trail marks row ≡ false
not_picked objective trail marks row none = ap (λ (n : ℕ). nat_lt 0 n && not (meets_marks trail marks row.terms)) none

pub is-picked : (objective : List PositiveTerm) (trail : List Literal) (marks : List Bool) (row : PositiveRow) → contribution objective trail row ≢ 0 → meets_marks trail marks row.terms ≡ false → is_picked objective trail marks row ≡ true
is-picked objective trail marks row some unmet = rw (lt-ltb 0 (contribution objective trail row) (omega arith), unmet) refl
