-- How what a trail makes true, its values and its sums change when a literal joins it.
use Rattle.std.proofs.Common.{◌≡◌, ◌≢◌, ℕ, ◌+◌, ◌≤◌, List, [], ◌∷◌, ◌++◌, refl, sym, ◌∙◌, ap, arith, Some, None, Bool, true, false, not, cond, ◌||◌, eqb, sum_by, inl, inr}
use Rattle.std.proofs.lemmas.Bool.{eqb-true, eqb-false, eq-eqb, ne_eqb, cases_Bool, cases_eq}
use Rattle.std.proofs.lemmas.List.Folds.{list_any-append}
use Rattle.std.proofs.lemmas.List.Sums.{sum_by-cons, sum_by-le-sum_by}
use Rattle.std.specs.List.{list_any}
use Rattle.pb_inst.specs.Literal.{Literal}
use Rattle.pb_normal.specs.declared.terms.PositiveTerm.{PositiveTerm}
use Rattle.pb_normal.specs.Literals.{negation, same_sign, same_literal, weight_of}
use Rattle.pb_normal.proofs.LiteralLemmas.{same_literal-is, same_literal-other}
use Rattle.pb_trail.specs.Trail.{is_true, is_false, value_on, reachable}

abbrev lit : ℕ → Bool → Literal
lit v b = record { var = v; positive = b }

-- one more literal on the trail
pub is_true-push : (trail : List Literal) (l m : Literal) → is_true (trail ++ l ∷ []) m ≡ (is_true trail m || same_literal m l)
unfolding is_true
is_true-push trail l m = list_any-append (λ x. same_literal m x) trail (l ∷ []) ∙ ap (λ b. list_any (λ x. same_literal m x) trail || b) (or-false (same_literal m l))
  where
    or-false : (b : Bool) → (b || false) ≡ b
    or-false true = refl
    or-false false = refl

-- the empty trail makes nothing true
pub is_true-nil : (m : Literal) → is_true [] m ≡ false
unfolding is_true
is_true-nil m = refl

-- where the trail gives the variable no value, neither of its literals is on it
pub no_value : (trail : List Literal) (v : ℕ) → value_on trail v ≡ None → (b : Bool) → is_true trail (lit v b) ≡ false
no_value trail v h b =
    elim (cases_Bool (is_true trail (lit v true))) [
      | inl on ↦ absurd (let k : value_on trail v ≡ Some true = rw on refl in let none : ⊥ = cc in none)
      | inr off ↦ elim (cases_Bool (is_true trail (lit v false))) [
        | inl on ↦ absurd (let k : value_on trail v ≡ Some false = rw (off, on) refl in let none : ⊥ = cc in none)
        | inr also ↦ elim b as (λ x. is_true trail (lit v x) ≡ false) [ true ↦ off | false ↦ also ]
      ]
    ]

-- the value of another variable stays
pub value_on-other : (trail : List Literal) (l : Literal) (v : ℕ) → v ≢ l.var → value_on (trail ++ l ∷ []) v ≡ value_on trail v
value_on-other trail l v h =
    let at : (b : Bool) → is_true (trail ++ l ∷ []) (lit v b) ≡ is_true trail (lit v b) = λ b. is_true-push trail l (lit v b) ∙ (ap (λ x. is_true trail (lit v b) || x) (same_literal-other (lit v b) l h) ∙ or-false (is_true trail (lit v b))) in
    rw (at true, at false) refl
  where
    or-false : (b : Bool) → (b || false) ≡ b
    or-false true = refl
    or-false false = refl

-- a literal without a value gets its own
pub value_on-same : (trail : List Literal) (l : Literal) → value_on trail l.var ≡ None → value_on (trail ++ l ∷ []) l.var ≡ Some l.positive
value_on-same trail l h =
    let at : (b : Bool) → is_true (trail ++ l ∷ []) (lit l.var b) ≡ same_literal (lit l.var b) l = λ b. is_true-push trail l (lit l.var b) ∙ ap (λ x. x || same_literal (lit l.var b) l) (no_value trail l.var h b) in
    rw (at true, at false, eq-eqb l.var l.var refl) (by_sign l.positive)
  where
    by_sign : (b : Bool) → cond (same_sign true b) (Some true) (cond (same_sign false b) (Some false) None) ≡ Some b
    by_sign true = refl
    by_sign false = refl

-- the coefficient that a term loses where `l` joins the trail
term_loss : (trail : List Literal) (l : Literal) (t : PositiveTerm) → value_on trail l.var ≡ None → cond (is_false (trail ++ l ∷ []) t.lit) 0 t.coef + cond (same_literal (negation l) t.lit) t.coef 0 ≡ cond (is_false trail t.lit) 0 t.coef
term_loss trail l t h =
    let pushed = is_true-push trail l (negation t.lit) in
    let flip : same_literal (negation l) t.lit ≡ same_literal (negation t.lit) l = same_literal-flip l t.lit in
    let known : same_literal (negation t.lit) l ≡ true → is_true trail (negation t.lit) ≡ false = λ e. (let is : negation t.lit ≡ l = same_literal-is (negation t.lit) l e in rw is (no_value trail l.var h l.positive)) in
    rw (pushed, flip) (by_cases (is_true trail (negation t.lit)) (same_literal (negation t.lit) l) t.coef known)
  where
    by_cases : (a b : Bool) (n : ℕ) → (b ≡ true → a ≡ false) → cond (a || b) 0 n + cond b n 0 ≡ cond a 0 n
    by_cases true true n h = absurd (let e : true ≡ false = h refl in let none : ⊥ = cc in none)
    by_cases true false n h = omega arith
    by_cases false true n h = omega arith
    by_cases false false n h = omega arith

    not-not : (b : Bool) → not (not b) ≡ b
    not-not true = refl
    not-not false = refl

    sign-flip : (a b : Bool) → same_sign (not a) b ≡ same_sign (not b) a
    sign-flip true true = refl
    sign-flip true false = refl
    sign-flip false true = refl
    sign-flip false false = refl

    eqb-flip : (a b : ℕ) → eqb a b ≡ eqb b a
    eqb-flip a b = elim (cases_Bool (eqb a b)) [
      | inl same ↦ same ∙ sym (eq-eqb b a (sym (eqb-true a b same)))
      | inr other ↦ other ∙ sym (ne_eqb b a (λ e. eqb-false a b other (sym e)))
    ]

    same_literal-flip : (l m : Literal) → same_literal (negation l) m ≡ same_literal (negation m) l
    same_literal-flip l m = rw (eqb-flip l.var m.var, sign-flip l.positive m.positive) refl

-- a literal that joins the trail takes the weight of its negation away
pub reachable-push : (trail : List Literal) (l : Literal) (terms : List PositiveTerm) → value_on trail l.var ≡ None → reachable (trail ++ l ∷ []) terms + weight_of (negation l) terms ≡ reachable trail terms
unfolding reachable weight_of
reachable-push trail l [] h = refl
reachable-push trail l (t ∷ terms) h =
    let here = term_loss trail l t h in
    let rest = reachable-push trail l terms h in
    let after = sum_by-cons (λ (u : PositiveTerm). cond (is_false (trail ++ l ∷ []) u.lit) 0 u.coef) t terms in
    let before = sum_by-cons (λ (u : PositiveTerm). cond (is_false trail u.lit) 0 u.coef) t terms in
    let weight = sum_by-cons (λ (u : PositiveTerm). cond (same_literal (negation l) u.lit) u.coef 0) t terms in
    omega arith

-- where the trail with one more literal gives no value, so did the trail
pub value_on-before : (trail : List Literal) (l : Literal) (v : ℕ) → value_on trail l.var ≡ None → value_on (trail ++ l ∷ []) v ≡ None → value_on trail v ≡ None
value_on-before trail l v free h =
    elim (cases_eq v l.var) [
      | inl same ↦ rw same free
      | inr other ↦ sym (value_on-other trail l v other) ∙ h
    ]

-- what can be reached is at most all coefficients
pub reachable-le-total : (trail : List Literal) (terms : List PositiveTerm) → reachable trail terms ≤ sum_by (λ (t : PositiveTerm). t.coef) terms
unfolding reachable
reachable-le-total trail terms = sum_by-le-sum_by (λ (t : PositiveTerm). cond (is_false trail t.lit) 0 t.coef) (λ (t : PositiveTerm). t.coef) terms (λ t. at_most (is_false trail t.lit) t.coef)
  where
    at_most : (b : Bool) (n : ℕ) → cond b 0 n ≤ n
    at_most true n = omega arith
    at_most false n = omega arith

-- on the empty trail every coefficient can be reached
pub reachable-nil : (terms : List PositiveTerm) → reachable [] terms ≡ sum_by (λ (t : PositiveTerm). t.coef) terms
unfolding reachable
reachable-nil [] = refl
reachable-nil (t ∷ terms) =
    let here : ◌≡◌ {A = ℕ} (cond (is_false [] t.lit) 0 t.coef) t.coef = rw (is_true-nil (negation t.lit)) refl in
    let rest = reachable-nil terms in
    omega (arith, sum_by-cons (λ (u : PositiveTerm). cond (is_false [] u.lit) 0 u.coef) t terms, sum_by-cons (λ (u : PositiveTerm). u.coef) t terms)
