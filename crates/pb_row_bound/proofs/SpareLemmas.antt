-- How what the trail pays and what rows have at no cost change when a literal joins the trail.
use Rattle.std.proofs.Common.{◌≡◌, ◌≢◌, ℕ, ◌+◌, ◌<◌, ◌≤◌, List, [], ◌∷◌, ◌++◌, refl, sym, ◌∙◌, ap, subst, arith, Bool, true, false, not, ◌&&◌, ◌||◌, cond, eqb, sum_by, inl, inr, None, length, get_or, take}
use Rattle.std.specs.Prelude.{is_none}
use Rattle.std.proofs.lemmas.Bool.{cases_Bool, eq-eqb, lt-ltb, le-ltb}
use Rattle.std.proofs.lemmas.List.Sums.{sum_by-cons, sum_by_more, sum_by_more_le_part, sum_by-le-sum_by}
use Rattle.pb_inst.specs.Literal.{Literal}
use Rattle.pb_normal.specs.declared.terms.PositiveTerm.{PositiveTerm}
use Rattle.pb_normal.specs.Literals.{negation, same_sign, same_literal, weight_of}
use Rattle.pb_trail.specs.Trail.{is_true, value_on, reached}
use Rattle.pb_row_bound.specs.DisjointRows.{has_cost, is_free, is_spare, spare, gain, loss}
use Rattle.pb_normal.proofs.LiteralLemmas.{same_literal-itself, same_literal-is, same_literal-other}
use Rattle.pb_trail.proofs.TrailLemmas.{is_true-push, is_true-nil, no_value, value_on-same, value_on-other}
use Rattle.pb_normal.proofs.LiteralLemmas.{weight_of-cons, weight_of-nil}

own_negation : (l : Literal) → (same_literal l (negation l) ≡ false) × (same_literal (negation l) l ≡ false)
own_negation l = rw (eq-eqb l.var l.var refl) (by_sign l.positive)
  where
    by_sign : (p : Bool) → ((true && same_sign p (not p)) ≡ false) × ((true && same_sign (not p) p) ≡ false)
    by_sign true = (refl, refl)
    by_sign false = (refl, refl)

or-false : (b : Bool) → (b || false) ≡ b
or-false true = refl
or-false false = refl

or-true : (b : Bool) → (b || true) ≡ true
or-true true = refl
or-true false = refl

-- a literal of the same variable is the literal or its negation
one_of_both : (l m : Literal) → m.var ≡ l.var → same_literal l m ≡ false → same_literal (negation l) m ≡ false → ⊥
one_of_both l m same off also = by_sign l.positive m.positive (parts (same_sign l.positive m.positive) off) (parts (same_sign (not l.positive) m.positive) also)
  where
    parts : (b : Bool) → (eqb l.var m.var && b) ≡ false → b ≡ false
    parts b h = ap (λ (x : Bool). x && b) (sym (eq-eqb l.var m.var (sym same))) ∙ h

    by_sign : (p q : Bool) → same_sign p q ≡ false → same_sign (not p) q ≡ false → ⊥
    by_sign true true h k = let none : ⊥ = cc in none
    by_sign true false h k = let none : ⊥ = cc in none
    by_sign false true h k = let none : ⊥ = cc in none
    by_sign false false h k = let none : ⊥ = cc in none

abbrev Changes : List PositiveTerm → List Literal → Literal → ℕ → Literal → Type 0
Changes objective trail l n m =
    cond (is_spare objective (trail ++ l ∷ []) m) n 0 + cond (has_cost objective (negation l)) 0 (cond (same_literal (negation l) m) n 0) ≡ cond (is_spare objective trail m) n 0 + cond (has_cost objective l) (cond (same_literal l m) n 0) 0

abbrev Fits : List PositiveTerm → List Literal → Literal → ℕ → Literal → Type 0
Fits objective trail l n m = cond (is_spare objective trail m) n 0 + cond (has_cost objective l) (cond (same_literal l m) n 0) 0 ≤ n

-- what changes at one term
term_changes : (objective : List PositiveTerm) (trail : List Literal) (l : Literal) (n : ℕ) (m : Literal) → value_on trail l.var ≡ None → Changes objective trail l n m × Fits objective trail l n m
term_changes objective trail l n m free =
    let P : Literal → Type 0 = λ k. Changes objective trail l n k × Fits objective trail l n k in
    let unset : is_free trail l ≡ true = ap is_none free in
    let set' : is_free (trail ++ l ∷ []) l ≡ false = ap is_none (value_on-same trail l free) in
    let apart = own_negation l in
    let push = is_true-push trail l in
    elim (cases_Bool (same_literal l m)) [
      | inl same ↦
          (let on : is_true (trail ++ l ∷ []) l ≡ true = push l ∙ (ap (λ (b : Bool). is_true trail l || b) (same_literal-itself l) ∙ or-true (is_true trail l)) in
          let off : is_true trail l ≡ false = no_value trail l.var free l.positive in
          let own : P l = rw (on, off, unset, apart.1, same_literal-itself l) (at_own (has_cost objective l) (has_cost objective (negation l)) n) in
          subst P (same_literal-is l m same) own)
      | inr other ↦ elim (cases_Bool (same_literal (negation l) m)) [
        | inl same ↦
            (let off : is_true trail (negation l) ≡ false = no_value trail l.var free (not l.positive) in
            let still : is_true (trail ++ l ∷ []) (negation l) ≡ false = push (negation l) ∙ (ap (λ (b : Bool). is_true trail (negation l) || b) apart.1 ∙ (or-false (is_true trail (negation l)) ∙ off)) in
            let own : P (negation l) = rw (still, off, unset, set', apart.0, same_literal-itself (negation l)) (at_negation (has_cost objective (negation l)) (has_cost objective l) n) in
            subst P (same_literal-is (negation l) m same) own)
        | inr also ↦
            (let differs : m.var ≢ l.var = λ e. one_of_both l m e other also in
            let same_true : is_true (trail ++ l ∷ []) m ≡ is_true trail m = push m ∙ (ap (λ (b : Bool). is_true trail m || b) (same_literal-other m l differs) ∙ or-false (is_true trail m)) in
            let same_free : is_free (trail ++ l ∷ []) m ≡ is_free trail m = ap is_none (value_on-other trail l m.var differs) in
            rw (same_true, same_free, other, also) (elsewhere (is_spare objective trail m) (has_cost objective l) (has_cost objective (negation l)) n))
      ]
    ]
  where
    at_own : (c d : Bool) (n : ℕ) → (cond (true || (is_free (trail ++ l ∷ []) l && not c)) n 0 + cond d 0 (cond false n 0) ≡ cond (false || (true && not c)) n 0 + cond c (cond true n 0) 0) × (cond (false || (true && not c)) n 0 + cond c (cond true n 0) 0 ≤ n)
    at_own true true n = (omega arith, omega arith)
    at_own true false n = (omega arith, omega arith)
    at_own false true n = (omega arith, omega arith)
    at_own false false n = (omega arith, omega arith)

    at_negation : (d c : Bool) (n : ℕ) → (cond (false || (false && not d)) n 0 + cond d 0 (cond true n 0) ≡ cond (false || (true && not d)) n 0 + cond c (cond false n 0) 0) × (cond (false || (true && not d)) n 0 + cond c (cond false n 0) 0 ≤ n)
    at_negation true true n = (omega arith, omega arith)
    at_negation true false n = (omega arith, omega arith)
    at_negation false true n = (omega arith, omega arith)
    at_negation false false n = (omega arith, omega arith)

    elsewhere : (s c d : Bool) (n : ℕ) → (cond s n 0 + cond d 0 (cond false n 0) ≡ cond s n 0 + cond c (cond false n 0) 0) × (cond s n 0 + cond c (cond false n 0) 0 ≤ n)
    elsewhere true true true n = (omega arith, omega arith)
    elsewhere true true false n = (omega arith, omega arith)
    elsewhere true false true n = (omega arith, omega arith)
    elsewhere true false false n = (omega arith, omega arith)
    elsewhere false true true n = (omega arith, omega arith)
    elsewhere false true false n = (omega arith, omega arith)
    elsewhere false false true n = (omega arith, omega arith)
    elsewhere false false false n = (omega arith, omega arith)

gain-cons : (objective : List PositiveTerm) (l : Literal) (t : PositiveTerm) (terms : List PositiveTerm) → gain objective l (t ∷ terms) ≡ cond (has_cost objective l) (cond (same_literal l t.lit) t.coef 0) 0 + gain objective l terms
gain-cons objective l t terms = rw (weight_of-cons l t terms) (by_cases (has_cost objective l) (cond (same_literal l t.lit) t.coef 0) (weight_of l terms))
  where
    by_cases : (b : Bool) (m n : ℕ) → cond b (m + n) 0 ≡ cond b m 0 + cond b n 0
    by_cases true m n = refl
    by_cases false m n = omega arith

loss-cons : (objective : List PositiveTerm) (l : Literal) (t : PositiveTerm) (terms : List PositiveTerm) → loss objective l (t ∷ terms) ≡ cond (has_cost objective l) 0 (cond (same_literal l t.lit) t.coef 0) + loss objective l terms
loss-cons objective l t terms = rw (weight_of-cons l t terms) (by_cases (has_cost objective l) (cond (same_literal l t.lit) t.coef 0) (weight_of l terms))
  where
    by_cases : (b : Bool) (m n : ℕ) → cond b 0 (m + n) ≡ cond b 0 m + cond b 0 n
    by_cases true m n = omega arith
    by_cases false m n = refl

gain-nil : (objective : List PositiveTerm) (l : Literal) → gain objective l [] ≡ 0
gain-nil objective l = rw (weight_of-nil l) (by_case (has_cost objective l))
  where
    by_case : (b : Bool) → ◌≡◌ {A = ℕ} (cond b 0 0) 0
    by_case true = refl
    by_case false = refl

loss-nil : (objective : List PositiveTerm) (l : Literal) → loss objective l [] ≡ 0
loss-nil objective l = rw (weight_of-nil l) (by_case (has_cost objective l))
  where
    by_case : (b : Bool) → ◌≡◌ {A = ℕ} (cond b 0 0) 0
    by_case true = refl
    by_case false = refl

-- a literal that joins the trail is had from then on, and its negation is lost where it had no cost
pub spare-push : (objective : List PositiveTerm) (trail : List Literal) (l : Literal) (terms : List PositiveTerm) → value_on trail l.var ≡ None → (spare objective (trail ++ l ∷ []) terms + loss objective (negation l) terms ≡ spare objective trail terms + gain objective l terms) × (spare objective trail terms + gain objective l terms ≤ sum_by (λ (t : PositiveTerm). t.coef) terms)
unfolding spare
spare-push objective trail l [] free = (omega (arith, gain-nil objective l, loss-nil objective (negation l)), omega (arith, gain-nil objective l))
spare-push objective trail l (t ∷ terms) free =
    let here = term_changes objective trail l t.coef t.lit free in
    let rest = spare-push objective trail l terms free in
    let after = sum_by-cons (λ (u : PositiveTerm). cond (is_spare objective (trail ++ l ∷ []) u.lit) u.coef 0) t terms in
    let before = sum_by-cons (λ (u : PositiveTerm). cond (is_spare objective trail u.lit) u.coef 0) t terms in
    let more = gain-cons objective l t terms in
    let less = loss-cons objective (negation l) t terms in
    let total = sum_by-cons (λ (u : PositiveTerm). u.coef) t terms in
    (omega (arith, here.0, rest.0), omega (arith, here.1, rest.1))

-- a literal that joins the trail is paid
pub reached-push : (trail : List Literal) (l : Literal) (terms : List PositiveTerm) → value_on trail l.var ≡ None → reached (trail ++ l ∷ []) terms ≡ reached trail terms + weight_of l terms
unfolding reached
reached-push trail l [] free = omega (arith, weight_of-nil l)
reached-push trail l (t ∷ terms) free =
    let rest = reached-push trail l terms free in
    let after = sum_by-cons (λ (u : PositiveTerm). cond (is_true (trail ++ l ∷ []) u.lit) u.coef 0) t terms in
    let before = sum_by-cons (λ (u : PositiveTerm). cond (is_true trail u.lit) u.coef 0) t terms in
    let weight = weight_of-cons l t terms in
    let here : cond (is_true (trail ++ l ∷ []) t.lit) t.coef 0 ≡ cond (is_true trail t.lit) t.coef 0 + cond (same_literal l t.lit) t.coef 0 = paid_at t in
    omega arith
  where
    joined : (a b : Bool) (n : ℕ) → (b ≡ true → a ≡ false) → cond (a || b) n 0 ≡ cond a n 0 + cond b n 0
    joined true true n h = absurd (let e : true ≡ false = h refl in let none : ⊥ = cc in none)
    joined true false n h = omega arith
    joined false true n h = omega arith
    joined false false n h = omega arith

    turned : (l m : Literal) → same_literal m l ≡ same_literal l m
    turned l m = elim (cases_Bool (same_literal l m)) [
      | inl same ↦ (let is = same_literal-is l m same in ap (λ (k : Literal). same_literal k l) (sym is) ∙ (same_literal-itself l ∙ sym same))
      | inr other ↦ elim (cases_Bool (same_literal m l)) [
        | inl same ↦ (let is = same_literal-is m l same in ap (λ (k : Literal). same_literal k l) is ∙ (same_literal-itself l ∙ (sym (same_literal-itself l) ∙ ap (λ (k : Literal). same_literal l k) (sym is))))
        | inr also ↦ also ∙ sym other
      ]
    ]

    paid_at : (t : PositiveTerm) → cond (is_true (trail ++ l ∷ []) t.lit) t.coef 0 ≡ cond (is_true trail t.lit) t.coef 0 + cond (same_literal l t.lit) t.coef 0
    paid_at t =
        rw (is_true-push trail l t.lit, turned l t.lit) (joined (is_true trail t.lit) (same_literal l t.lit) t.coef (λ same. (let is = same_literal-is l t.lit same in subst (λ (m : Literal). is_true trail m ≡ false) is (no_value trail l.var free l.positive))))

-- before any literal is counted the literals without cost are spare
spare_at_first : (objective : List PositiveTerm) (l : Literal) → is_spare objective [] l ≡ not (has_cost objective l)
spare_at_first objective l = rw (is_true-nil l, is_true-nil (record { var = l.var; positive = true }), is_true-nil (record { var = l.var; positive = false })) refl

pub spare-next : (objective : List PositiveTerm) (terms : List PositiveTerm) (i : ℕ) (d : PositiveTerm) → i < length terms → spare objective [] (take (i + 1) terms) ≡ spare objective [] (take i terms) + cond (has_cost objective (get_or terms i d).lit) 0 (get_or terms i d).coef
unfolding spare
spare-next objective terms i d h =
    let more = sum_by_more (λ (t : PositiveTerm). cond (is_spare objective [] t.lit) t.coef 0) terms i d h in
    let turned : cond (is_spare objective [] (get_or terms i d).lit) (get_or terms i d).coef 0 ≡ cond (has_cost objective (get_or terms i d).lit) 0 (get_or terms i d).coef = rw (spare_at_first objective (get_or terms i d).lit) (turn (has_cost objective (get_or terms i d).lit) (get_or terms i d).coef) in
    omega arith
  where
    turn : (b : Bool) (n : ℕ) → cond (not b) n 0 ≡ cond b 0 n
    turn true n = refl
    turn false n = refl

pub spare-within : (objective : List PositiveTerm) (terms : List PositiveTerm) (i : ℕ) (d : PositiveTerm) → i < length terms → spare objective [] (take i terms) + (get_or terms i d).coef ≤ sum_by (λ (t : PositiveTerm). t.coef) terms
unfolding spare
spare-within objective terms i d h = sum_by_more_le_part (λ (t : PositiveTerm). cond (is_spare objective [] t.lit) t.coef 0) (λ (t : PositiveTerm). t.coef) terms i d h (λ t. at_most (is_spare objective [] t.lit) t.coef)
  where
    at_most : (b : Bool) (n : ℕ) → cond b n 0 ≤ n
    at_most true n = omega arith
    at_most false n = omega arith

pub spare-none : (objective : List PositiveTerm) (trail : List Literal) → spare objective trail [] ≡ 0
unfolding spare
spare-none objective trail = refl

pub spare-le-total : (objective : List PositiveTerm) (trail : List Literal) (terms : List PositiveTerm) → spare objective trail terms ≤ sum_by (λ (t : PositiveTerm). t.coef) terms
unfolding spare
spare-le-total objective trail terms = sum_by-le-sum_by (λ (t : PositiveTerm). cond (is_spare objective trail t.lit) t.coef 0) (λ (t : PositiveTerm). t.coef) terms (λ t. at_most (is_spare objective trail t.lit) t.coef)
  where
    at_most : (b : Bool) (n : ℕ) → cond b n 0 ≤ n
    at_most true n = omega arith
    at_most false n = omega arith

pub spare-more : (objective : List PositiveTerm) (terms : List PositiveTerm) (i : ℕ) (t : PositiveTerm) (cost : ℕ) → i < length terms → t ≡ get_or terms i t → cost ≡ weight_of t.lit objective → cost ≡ 0 → spare objective [] (take (i + 1) terms) ≡ spare objective [] (take i terms) + t.coef
spare-more objective terms i t cost h read is none =
    let off : has_cost objective (get_or terms i t).lit ≡ false = le-ltb 0 (weight_of (get_or terms i t).lit objective) (omega (arith, ap (λ (u : PositiveTerm). weight_of u.lit objective) read)) in
    let coef = ap (λ (u : PositiveTerm). u.coef) read in
    let here : ◌≡◌ {A = ℕ} (cond (has_cost objective (get_or terms i t).lit) 0 (get_or terms i t).coef) (get_or terms i t).coef = rw off refl in
    omega (arith, spare-next objective terms i t h)

pub spare-same : (objective : List PositiveTerm) (terms : List PositiveTerm) (i : ℕ) (t : PositiveTerm) (cost : ℕ) → i < length terms → t ≡ get_or terms i t → cost ≡ weight_of t.lit objective → cost ≢ 0 → spare objective [] (take (i + 1) terms) ≡ spare objective [] (take i terms)
spare-same objective terms i t cost h read is some =
    let on : has_cost objective (get_or terms i t).lit ≡ true = lt-ltb 0 (weight_of (get_or terms i t).lit objective) (omega (arith, ap (λ (u : PositiveTerm). weight_of u.lit objective) read)) in
    let here : ◌≡◌ {A = ℕ} (cond (has_cost objective (get_or terms i t).lit) 0 (get_or terms i t).coef) 0 = rw on refl in
    omega (arith, spare-next objective terms i t h)
