-- What holds of every completion, and how rows stay settled.
use Rattle.std.proofs.Common.{◌≡◌, ℕ, zero, suc, ◌+◌, ◌-◌, ◌*◌, ◌<◌, ◌≤◌, List, [], ◌∷◌, ◌++◌, length, get_or, take, drop, refl, ◌∙◌, ap, subst, arith, None, Bool, true, false, not, cond, sum_by, All, inl, inr, length-append}
use Rattle.std.proofs.lemmas.Bool.{or_cases}
use Rattle.std.proofs.lemmas.List.{get_or_append_left, get_or-append_right}
use Rattle.std.proofs.lemmas.List.Elements.{All-head, All-tail}
use Rattle.std.proofs.lemmas.List.Sums.{sum_by-take-drop, sum_by-drop_more, sum_by-le-sum_by}
use Rattle.std.specs.Prelude.{pos, ◌≤ℤ◌, ◌-ℤ◌, ◌<ℤ◌}
use Rattle.std.proofs.lemmas.Int.{ints}
use Rattle.pb_inst.specs.Literal.{Literal}
use Rattle.pb_inst.specs.Meaning.{literal_value}
use Rattle.pb_normal.specs.declared.terms.PositiveTerm.{PositiveTerm}
use Rattle.pb_normal.specs.NormalForm.{PositiveRow, positive_value}
use Rattle.pb_rows.specs.Constraints.{row_at}
use Rattle.pb_normal.specs.Literals.{negation, same_literal, weight_of}
use Rattle.pb_trail.specs.Trail.{is_true, is_false, value_on, reachable}
use Rattle.pb_trail.specs.Completion.{HasNoCompletion, IsForced, IsSettled}
use Rattle.pb_trail.specs.Propagation.{AddsForced, nothing, one_more, IsUntouched, IsSettledFrom}
use Rattle.pb_normal.proofs.LiteralLemmas.{same_literal-is}
use Rattle.pb_trail.proofs.TrailLemmas.{no_value, value_on-before, reachable-push}

-- a literal and its negation have the values 0 and 1
pub literal_value-negation : (a : List Bool) (l : Literal) → literal_value a l + literal_value a (negation l) ≡ 1
literal_value-negation a l = by_cases l.positive (get_or a (l.var - 1) false)
  where
    by_cases : (p v : Bool) → cond p (cond v 1 0) (1 - cond v 1 0) + cond (not p) (cond v 1 0) (1 - cond v 1 0) ≡ 1
    by_cases true true = refl
    by_cases true false = refl
    by_cases false true = refl
    by_cases false false = refl

abbrev MakesTrue : List Bool → List Literal → Type 0
MakesTrue a trail = All (λ (l : Literal). literal_value a l ≡ 1) trail

-- what is on the trail is true in a completion
pub true_in_completion : (a : List Bool) (trail : List Literal) (m : Literal) → MakesTrue a trail → is_true trail m ≡ true → literal_value a m ≡ 1
unfolding is_true
true_in_completion a [] m all h = absurd (let none : ⊥ = cc in none)
true_in_completion a (x ∷ trail) m all h =
    elim (or_cases (same_literal m x) (is_true trail m) h) [
      | inl here ↦ ap (λ (l : Literal). literal_value a l) (same_literal-is m x here) ∙ All-head (λ (l : Literal). literal_value a l ≡ 1) x trail all
      | inr later ↦ true_in_completion a trail m (All-tail (λ (l : Literal). literal_value a l ≡ 1) x trail all) later
    ]

-- the value of a term is at most what the trail leaves of it
term_at_most : (a : List Bool) (trail : List Literal) (t : PositiveTerm) → MakesTrue a trail → t.coef * literal_value a t.lit ≤ cond (is_false trail t.lit) 0 t.coef
term_at_most a trail t all =
    let both = literal_value-negation a t.lit in
    let known = true_in_completion a trail (negation t.lit) all in
    by_cases (is_false trail t.lit) t.coef (literal_value a t.lit) (literal_value a (negation t.lit)) both known
  where
    by_cases : (b : Bool) (n v w : ℕ) → v + w ≡ 1 → (b ≡ true → w ≡ 1) → n * v ≤ cond b 0 n
    by_cases true n v w both known =
        let one : w ≡ 1 = known refl in
        let zero : v ≡ 0 = omega arith in
        let product : n * v ≡ 0 = rw zero (omega arith) in
        omega arith
    by_cases false n zero w both known = omega arith
    by_cases false n (suc zero) w both known = omega arith
    by_cases false n (suc (suc v)) w both known = absurd (omega arith)

-- where each term of one sum is at most that of another, so are the sums, by at least the gap of any one term
sum_gap : (f g : PositiveTerm → ℕ) (terms : List PositiveTerm) (i : ℕ) (d : PositiveTerm) → i < length terms → ((t : PositiveTerm) → f t ≤ g t) → sum_by f terms + g (get_or terms i d) ≤ sum_by g terms + f (get_or terms i d)
sum_gap f g terms i d h each =
    omega (arith, sum_by-take-drop f terms i, sum_by-take-drop g terms i, sum_by-drop_more f terms i d h, sum_by-drop_more g terms i d h, sum_by-le-sum_by f g (take i terms) each, sum_by-le-sum_by f g (drop (i + 1) terms) each)

value_at_most : (a : List Bool) (trail : List Literal) (terms : List PositiveTerm) → MakesTrue a trail → positive_value a terms ≤ reachable trail terms
unfolding reachable
value_at_most a trail terms all = sum_by-le-sum_by (λ (t : PositiveTerm). t.coef * literal_value a t.lit) (λ (t : PositiveTerm). cond (is_false trail t.lit) 0 t.coef) terms (λ t. term_at_most a trail t all)

value_without : (a : List Bool) (trail : List Literal) (terms : List PositiveTerm) (i : ℕ) (d : PositiveTerm) → i < length terms → MakesTrue a trail → is_false trail (get_or terms i d).lit ≡ false → positive_value a terms + (get_or terms i d).coef ≤ reachable trail terms + (get_or terms i d).coef * literal_value a (get_or terms i d).lit
unfolding reachable
value_without a trail terms i d h all free =
    let gap = sum_gap (λ (t : PositiveTerm). t.coef * literal_value a t.lit) (λ (t : PositiveTerm). cond (is_false trail t.lit) 0 t.coef) terms i d h (λ t. term_at_most a trail t all) in
    let at : cond (is_false trail (get_or terms i d).lit) 0 (get_or terms i d).coef ≡ (get_or terms i d).coef = rw free refl in
    omega arith

-- a row that can't reach its degree leaves no completion
pub no_completion : (rows : List PositiveRow) (trail : List Literal) (r : ℕ) → r < length rows → reachable trail (row_at rows r).terms < (row_at rows r).degree → HasNoCompletion rows trail
no_completion rows trail r h low a whole =
    let meets = whole.meets_rows r (record { terms = []; degree = 0 }) h in
    let most = value_at_most a trail (row_at rows r).terms whole.makes_true in
    let none : ⊥ = omega arith in none

-- a literal without a value whose coefficient is greater than the slack is forced
pub forced_by_row : (rows : List PositiveRow) (trail : List Literal) (r i : ℕ) (d : PositiveTerm) → r < length rows → i < length (row_at rows r).terms → value_on trail (get_or (row_at rows r).terms i d).lit.var ≡ None → reachable trail (row_at rows r).terms < (row_at rows r).degree + (get_or (row_at rows r).terms i d).coef → IsForced rows trail (get_or (row_at rows r).terms i d).lit
forced_by_row rows trail r i d h within free low a whole =
    let t = get_or (row_at rows r).terms i d in
    let open' : is_false trail t.lit ≡ false = no_value trail t.lit.var free (not t.lit.positive) in
    let meets = whole.meets_rows r (record { terms = []; degree = 0 }) h in
    let most = value_without a trail (row_at rows r).terms i d within whole.makes_true open' in
    by_value t.coef (literal_value a t.lit) (literal_value a (negation t.lit)) (positive_value a (row_at rows r).terms) (reachable trail (row_at rows r).terms) (row_at rows r).degree (literal_value-negation a t.lit) meets most low
  where
    by_value : (n v w value reach degree : ℕ) → v + w ≡ 1 → degree ≤ value → value + n ≤ reach + n * v → reach < degree + n → v ≡ 1
    by_value n zero w value reach degree both meets most low = absurd (let product : n * 0 ≡ 0 = omega arith in let none : ⊥ = omega arith in none)
    by_value n (suc zero) w value reach degree both meets most low = refl
    by_value n (suc (suc v)) w value reach degree both meets most low = absurd (omega arith)

-- slacks in numbers without signs
slack-at-least : (reach degree n : ℕ) → degree + n ≤ reach → pos n ≤ℤ (pos reach -ℤ pos degree)
slack-at-least reach degree n h = omega (arith, ints)

pub slack-at-least_back : (reach degree n : ℕ) → pos n ≤ℤ (pos reach -ℤ pos degree) → degree + n ≤ reach
slack-at-least_back reach degree n h = omega (arith, ints)

pub slack-negative : (reach degree : ℕ) → reach < degree → (pos reach -ℤ pos degree) <ℤ pos 0
slack-negative reach degree h = omega (arith, ints)

-- a row is settled where its degree can be reached without any one literal that has no value
pub settled_by : (trail : List Literal) (row : PositiveRow) → row.degree ≤ reachable trail row.terms → All (λ (t : PositiveTerm). value_on trail t.lit.var ≡ None → row.degree + t.coef ≤ reachable trail row.terms) row.terms → IsSettled trail row
settled_by trail row enough each = record {
  not_negative = slack-at-least (reachable trail row.terms) row.degree 0 (omega arith);
  nothing_forced = λ k d h free. slack-at-least (reachable trail row.terms) row.degree (get_or row.terms k d).coef (each k d h free);
}

-- a literal that touches no literal of a settled row leaves it settled
settled-push : (trail : List Literal) (l : Literal) (row : PositiveRow) → value_on trail l.var ≡ None → weight_of (negation l) row.terms ≡ 0 → IsSettled trail row → IsSettled (trail ++ l ∷ []) row
settled-push trail l row free untouched is =
    let same : reachable (trail ++ l ∷ []) row.terms ≡ reachable trail row.terms = omega (arith, reachable-push trail l row.terms free) in
    settled_by (trail ++ l ∷ []) row
    (omega (arith, slack-at-least_back (reachable trail row.terms) row.degree 0 is.not_negative))
    (λ k d h unset. omega (arith, slack-at-least_back (reachable trail row.terms) row.degree (get_or row.terms k d).coef (is.nothing_forced k d h (value_on-before trail l (get_or row.terms k d).lit.var free unset))))

-- the last literal does not touch the row, and neither do those before it
untouched-push : (trail : List Literal) (l : Literal) (head : ℕ) (row : PositiveRow) → head ≤ length trail → IsUntouched (trail ++ l ∷ []) head row → (weight_of (negation l) row.terms ≡ 0) × IsUntouched trail head row
untouched-push trail l head row low h =
    let long = length-append trail (l ∷ []) in
    let here : get_or (trail ++ l ∷ []) (length trail) l ≡ l = get_or-append_right trail (l ∷ []) (length trail) (length trail) l refl (omega arith) ∙ ap (λ (i : ℕ). get_or (l ∷ []) i l) (let nought : length trail - length trail ≡ 0 = omega arith in nought) in
    let last : weight_of (negation l) row.terms ≡ 0 = subst (λ (m : Literal). weight_of (negation m) row.terms ≡ 0) here (h (length trail) l low (omega arith)) in
    (last, λ k d from upto. subst (λ (m : Literal). weight_of (negation m) row.terms ≡ 0) (get_or_append_left trail (l ∷ []) d k upto) (h k d from (omega arith)))

pub settled_from-push : (trail : List Literal) (l : Literal) (head : ℕ) (row : PositiveRow) → head ≤ length trail → value_on trail l.var ≡ None → IsSettledFrom head trail row → IsSettledFrom head (trail ++ l ∷ []) row
settled_from-push trail l head row low free from untouched =
    let parts = untouched-push trail l head row low untouched in
    settled-push trail l row free parts.0 (from parts.1)

pub length-AddsForced : (rows : List PositiveRow) (trail new : List Literal) → AddsForced rows trail new → length trail ≤ length new
length-AddsForced rows trail new nothing = omega arith
length-AddsForced rows trail new (one_more longer l added free forced) =
    omega (arith, length-AddsForced rows trail longer added, length-append longer (l ∷ []))

-- a row that is settled but for the literals from `head` on stays so
pub settled_from-AddsForced : (rows : List PositiveRow) (trail new : List Literal) (head : ℕ) (row : PositiveRow) → head ≤ length trail → AddsForced rows trail new → IsSettledFrom head trail row → IsSettledFrom head new row
settled_from-AddsForced rows trail new head row low nothing from = from
settled_from-AddsForced rows trail new head row low (one_more longer l added free forced) from =
    settled_from-push longer l head row (omega (arith, length-AddsForced rows trail longer added)) free (settled_from-AddsForced rows trail longer head row low added from)

pub reachable-AddsForced : (rows : List PositiveRow) (trail new : List Literal) (terms : List PositiveTerm) → AddsForced rows trail new → reachable new terms ≤ reachable trail terms
reachable-AddsForced rows trail new terms nothing = omega arith
reachable-AddsForced rows trail new terms (one_more longer l added free forced) =
    omega (arith, reachable-AddsForced rows trail longer terms added, reachable-push longer l terms free)

pub reachable-untouched : (rows : List PositiveRow) (trail new : List Literal) (head : ℕ) (row : PositiveRow) → head ≤ length trail → AddsForced rows trail new → IsUntouched new head row → reachable new row.terms ≡ reachable trail row.terms
reachable-untouched rows trail new head row low nothing untouched = refl
reachable-untouched rows trail new head row low (one_more longer l added free forced) untouched =
    let parts = untouched-push longer l head row (omega (arith, length-AddsForced rows trail longer added)) untouched in
    omega (arith, reachable-untouched rows trail longer head row low added parts.1, reachable-push longer l row.terms free)

pub AddsForced-trans : (rows : List PositiveRow) (first second third : List Literal) → AddsForced rows first second → AddsForced rows second third → AddsForced rows first third
AddsForced-trans rows first second third a nothing = a
AddsForced-trans rows first second third a (one_more longer l added free forced) =
    one_more longer l (AddsForced-trans rows first second longer a added) free forced
