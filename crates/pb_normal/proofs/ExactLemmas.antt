-- The value of a sum fixes its least value and the surplus of each literal.
use Rattle.std.proofs.Common.{◌≡◌, ◌≢◌, ℕ, ℤ, ◌+◌, ◌-◌, ◌*◌, ◌≤◌, List, [], ◌∷◌, map, get_or, refl, sym, ◌∙◌, arith, Bool, true, false, cond, eqb, ltb, All, inl, inr}
use Rattle.std.specs.Prelude.{fold, pos, negsuc, ◌+ℤ◌, ◌*ℤ◌}
use Rattle.std.specs.List.{range_with_len}
use Rattle.std.proofs.lemmas.Int.{ints, clamps}
use Rattle.std.proofs.lemmas.Bool.{eq-eqb, ne_eqb, cases_eq, cases_lt, lt-ltb, le-ltb}
use Rattle.std.proofs.lemmas.List.Elements.{All-head, All-tail}
use Rattle.std.proofs.lemmas.List.FromFn.{get_or-map-range_with_len}
use Rattle.std.proofs.lemmas.List.Sums.{sum_by-cons}
use Rattle.pb_inst.specs.Literal.{Literal}
use Rattle.pb_inst.specs.Limits.{AllVariablesWithin}
use Rattle.pb_inst.specs.Meaning.{literal_value, sum_value}
use Rattle.pb_inst.specs.declared.constraints.Term.{Term}
use Rattle.pb_inst.proofs.SumProofs.{sum_value-cons}
use Rattle.pb_normal.specs.declared.terms.PositiveTerm.{PositiveTerm}
use Rattle.pb_normal.specs.Literals.{negation, same_sign, same_literal, weight_of}
use Rattle.pb_normal.specs.Exact.{coefficient_of, surplus, IsLeastValue}
use Rattle.pb_normal.specs.Merging.{IsSumOf}
use Rattle.pb_normal.specs.NormalForm.{positive_value, ArePositiveTerms}
use Rattle.pb_normal.proofs.LiteralLemmas.{lit, same_literal-other, same_literal-at, weight_of-nil, weight_of-cons, weight_of-skip, weight_of-here, one_sign}

-- a signed sum, one part at a time
fold_from : {X : Type 0} (f : X → ℤ) (s : ℤ) (xs : List X) → fold (λ (sum : ℤ) (x : X). sum +ℤ f x) s xs ≡ s +ℤ fold (λ (sum : ℤ) (x : X). sum +ℤ f x) (pos 0) xs
fold_from f s [] = omega (arith, ints)
fold_from f s (x ∷ xs) =
    let left = fold_from f (s +ℤ f x) xs in
    let right = fold_from f (pos 0 +ℤ f x) xs in
    omega (arith, ints)

pub signed-cons : {X : Type 0} (f : X → ℤ) (x : X) (xs : List X) → fold (λ (sum : ℤ) (y : X). sum +ℤ f y) (pos 0) (x ∷ xs) ≡ f x +ℤ fold (λ (sum : ℤ) (y : X). sum +ℤ f y) (pos 0) xs
signed-cons f x xs =
    let e = fold_from f (pos 0 +ℤ f x) xs in
    omega (arith, ints)

pub coefficient_of-cons : (l : Literal) (t : Term) (terms : List Term) → coefficient_of l (t ∷ terms) ≡ cond (same_literal l t.lit) t.coef (pos 0) +ℤ coefficient_of l terms
coefficient_of-cons l t terms = signed-cons (λ (u : Term). cond (same_literal l u.lit) u.coef (pos 0)) t terms

abbrev bit : Bool → ℕ
bit b = cond b 1 0

-- the assignment of the variables 1 to n by a test
pub assigned : ℕ → (ℕ → Bool) → List Bool
assigned n f = map f (range_with_len 1 n)

pub assigned_is : (n : ℕ) (f : ℕ → Bool) (v : ℕ) → 1 ≤ v → v ≤ n → get_or (assigned n f) (v - 1) false ≡ f v
unfolding assigned
assigned_is n f v low high = get_or-map-range_with_len f 1 n (v - 1) v false (omega arith) (omega arith)

pub value_at : (n : ℕ) (f : ℕ → Bool) (l : Literal) → 1 ≤ l.var → l.var ≤ n → literal_value (assigned n f) l ≡ cond (same_sign l.positive (f l.var)) 1 0
value_at n f l low high = rw (assigned_is n f l.var low high) (by_sign l.positive (f l.var))
  where
    by_sign : (p v : Bool) → cond p (cond v 1 0) (1 - cond v 1 0) ≡ cond (same_sign p v) 1 0
    by_sign true true = refl
    by_sign true false = refl
    by_sign false true = refl
    by_sign false false = refl

-- only one variable is true, and none is
abbrev only : ℕ → ℕ → List Bool
only n v = assigned n (λ w. eqb w v)

abbrev none_true : ℕ → List Bool
none_true n = assigned n (λ w. false)

-- the two values of a literal, and whether it is the variable's literal or its negation
data Turn : ℕ → ℕ → Bool → Bool → Type 0 where
  stays : (x : ℕ) → Turn x x false false
  rises : Turn 1 0 true false
  falls : Turn 0 1 false true

turn : (n v : ℕ) (l : Literal) → 1 ≤ l.var → l.var ≤ n → Turn (literal_value (only n v) l) (literal_value (none_true n) l) (same_literal (lit v true) l) (same_literal (lit v false) l)
turn n v l low high = rw (value_at n (λ w. eqb w v) l low high, value_at n (λ w. false) l low high) (elim (cases_eq v l.var) [
  | inl same ↦ rw (same_literal-at (lit v true) l same, same_literal-at (lit v false) l same, eq-eqb l.var v (sym same)) (here l.positive)
  | inr other ↦ rw (same_literal-other (lit v true) l other, same_literal-other (lit v false) l other, ne_eqb l.var v (λ e. other (sym e))) (stays (cond (same_sign l.positive false) 1 0))
])
  where
    here : (p : Bool) → Turn (cond (same_sign p true) 1 0) (cond (same_sign p false) 1 0) (same_sign true p) (same_sign false p)
    here true = rises
    here false = falls

term_turns : (c : ℤ) (x y : ℕ) (is isnt : Bool) → Turn x y is isnt → (c *ℤ pos x) +ℤ cond isnt c (pos 0) ≡ (c *ℤ pos y) +ℤ cond is c (pos 0)
term_turns c x _ _ _ (stays _) = refl
term_turns (pos n) _ _ _ _ rises = omega (arith, ints)
term_turns (negsuc n) _ _ _ _ rises = omega (arith, ints)
term_turns (pos n) _ _ _ _ falls = omega (arith, ints)
term_turns (negsuc n) _ _ _ _ falls = omega (arith, ints)

positive_turns : (c : ℕ) (x y : ℕ) (is isnt : Bool) → Turn x y is isnt → c * x + cond isnt c 0 ≡ c * y + cond is c 0
positive_turns c x _ _ _ (stays _) = refl
positive_turns c _ _ _ _ rises = omega arith
positive_turns c _ _ _ _ falls = omega arith

-- a variable that becomes true adds its own coefficients and takes away those of its negation
sum_turns : (n v : ℕ) (terms : List Term) → AllVariablesWithin n terms → sum_value (only n v) terms +ℤ coefficient_of (lit v false) terms ≡ sum_value (none_true n) terms +ℤ coefficient_of (lit v true) terms
sum_turns n v [] all = refl
sum_turns n v (t ∷ terms) all =
    let within = All-head (λ (u : Term). (1 ≤ u.lit.var) × (u.lit.var ≤ n)) t terms all in
    let rest = sum_turns n v terms (All-tail (λ (u : Term). (1 ≤ u.lit.var) × (u.lit.var ≤ n)) t terms all) in
    let here = term_turns t.coef _ _ _ _ (turn n v t.lit within.0 within.1) in
    let with = sum_value-cons (only n v) t terms in
    let without = sum_value-cons (none_true n) t terms in
    let own = coefficient_of-cons (lit v true) t terms in
    let other = coefficient_of-cons (lit v false) t terms in
    omega (arith, ints)

positive_sum_turns : (n v : ℕ) (terms : List PositiveTerm) → All (λ t. (1 ≤ t.lit.var) × (t.lit.var ≤ n)) terms → positive_value (only n v) terms + weight_of (lit v false) terms ≡ positive_value (none_true n) terms + weight_of (lit v true) terms
positive_sum_turns n v [] all = let own = weight_of-nil (lit v true) in let other = weight_of-nil (lit v false) in cc
positive_sum_turns n v (t ∷ terms) all =
    let within = All-head (λ (u : PositiveTerm). (1 ≤ u.lit.var) × (u.lit.var ≤ n)) t terms all in
    let rest = positive_sum_turns n v terms (All-tail (λ (u : PositiveTerm). (1 ≤ u.lit.var) × (u.lit.var ≤ n)) t terms all) in
    let here = positive_turns t.coef _ _ _ _ (turn n v t.lit within.0 within.1) in
    let with = sum_by-cons (λ (u : PositiveTerm). u.coef * literal_value (only n v) u.lit) t terms in
    let without = sum_by-cons (λ (u : PositiveTerm). u.coef * literal_value (none_true n) u.lit) t terms in
    let own = weight_of-cons (lit v true) t terms in
    let other = weight_of-cons (lit v false) t terms in
    omega arith

-- a variable that no term has
absent : (l : Literal) (terms : List Term) → All (λ t. l.var ≢ t.lit.var) terms → coefficient_of l terms ≡ pos 0
absent l [] h = refl
absent l (t ∷ terms) h =
    let P : Term → Type 0 = λ u. l.var ≢ u.lit.var in
    let rest = absent l terms (All-tail P t terms h) in
    let head : cond (same_literal l t.lit) t.coef (pos 0) ≡ pos 0 = rw (same_literal-other l t.lit (All-head P t terms h)) refl in
    let more = coefficient_of-cons l t terms in
    omega (arith, ints)

absent_weight : (l : Literal) (terms : List PositiveTerm) → All (λ t. l.var ≢ t.lit.var) terms → weight_of l terms ≡ 0
absent_weight l [] h = weight_of-nil l
absent_weight l (t ∷ terms) h =
    let P : PositiveTerm → Type 0 = λ u. l.var ≢ u.lit.var in
    weight_of-skip l t terms (same_literal-other l t.lit (All-head P t terms h)) ∙ absent_weight l terms (All-tail P t terms h)

surplus_here : (n : ℕ) (terms : List Term) (base : ℤ) (positive : List PositiveTerm) → IsSumOf n terms base positive → (v : ℕ) (b : Bool) → 1 ≤ v → v ≤ n → pos (weight_of (lit v b) positive) ≡ surplus (lit v b) terms
surplus_here n terms base positive sum v b low high =
    let with = sum.value (only n v) in
    let without = sum.value (none_true n) in
    let terms_turn = sum_turns n v terms sum.variables in
    let positive_turn = positive_sum_turns n v positive sum.shape.variables in
    elim (one_sign (lit v true) positive sum.shape.rising) [
      | inl nothing ↦ elim b as (λ x. pos (weight_of (lit v x) positive) ≡ surplus (lit v x) terms) [ true ↦ omega (arith, ints, clamps) | false ↦ omega (arith, ints, clamps) ]
      | inr nothing ↦ elim b as (λ x. pos (weight_of (lit v x) positive) ≡ surplus (lit v x) terms) [ true ↦ omega (arith, ints, clamps) | false ↦ omega (arith, ints, clamps) ]
    ]

-- each literal has its surplus
pub surplus_is : (n : ℕ) (terms : List Term) (base : ℤ) (positive : List PositiveTerm) → IsSumOf n terms base positive → (l : Literal) → pos (weight_of l positive) ≡ surplus l terms
surplus_is n terms base positive sum l = elim (cases_lt 0 l.var) [
  | inl low ↦ elim (cases_lt n l.var) [
    | inl above ↦ elsewhere (λ v h. omega arith)
    | inr high ↦ surplus_here n terms base positive sum l.var l.positive (omega arith) high
  ]
  | inr below ↦ elsewhere (λ v h. omega arith)
]
  where
    elsewhere : ((v : ℕ) → (1 ≤ v) × (v ≤ n) → l.var ≢ v) → pos (weight_of l positive) ≡ surplus l terms
    elsewhere other =
        let weight = absent_weight l positive (λ k d less. other _ (sum.shape.variables k d less)) in
        let own = absent l terms (λ k d less. other _ (sum.variables k d less)) in
        let turned = absent (negation l) terms (λ k d less. other _ (sum.variables k d less)) in
        omega (arith, ints, clamps)

-- the assignment that makes each of the positive terms false
abbrev lowest : ℕ → List PositiveTerm → List Bool
lowest n positive = assigned n (λ v. ltb 0 (weight_of (lit v false) positive))

lowest_is_zero : (n : ℕ) (positive : List PositiveTerm) → ArePositiveTerms n positive → All (λ t. literal_value (lowest n positive) t.lit ≡ 0) positive
lowest_is_zero n positive h = λ k d less.
    (let t : PositiveTerm = get_or positive k d in
    let within = h.variables k d less in
    let one : 1 ≤ t.coef = h.coefficients k d less in
    let weight : weight_of t.lit positive ≡ t.coef = weight_of-here positive h.rising k d less in
    value_at n (λ v. ltb 0 (weight_of (lit v false) positive)) t.lit within.0 within.1 ∙ by_sign t.lit.var t.lit.positive (omega arith))
  where
    by_sign : (v : ℕ) (p : Bool) → 1 ≤ weight_of (lit v p) positive → bit (same_sign p (ltb 0 (weight_of (lit v false) positive))) ≡ 0
    by_sign v true some = elim (one_sign (lit v true) positive h.rising) [
      | inl nothing ↦ absurd (omega arith)
      | inr nothing ↦ rw (le-ltb 0 (weight_of (lit v false) positive) (omega arith)) refl
    ]
    by_sign v false some = rw (lt-ltb 0 (weight_of (lit v false) positive) (omega arith)) refl

all_false : (a : List Bool) (terms : List PositiveTerm) → All (λ t. literal_value a t.lit ≡ 0) terms → positive_value a terms ≡ 0
all_false a [] h = refl
all_false a (t ∷ terms) h =
    let P : PositiveTerm → Type 0 = λ u. literal_value a u.lit ≡ 0 in
    let rest = all_false a terms (All-tail P t terms h) in
    let head : t.coef * literal_value a t.lit ≡ 0 = rw (All-head P t terms h) (omega arith) in
    let more = sum_by-cons (λ (u : PositiveTerm). u.coef * literal_value a u.lit) t terms in
    omega arith

-- the base is the least value
pub least_is : (n : ℕ) (terms : List Term) (base : ℤ) (positive : List PositiveTerm) → IsSumOf n terms base positive → IsLeastValue terms base
least_is n terms base positive sum =
    let nothing = all_false (lowest n positive) positive (lowest_is_zero n positive sum.shape) in
    let value = sum.value (lowest n positive) in
    record {
      below_all = λ a. (let at = sum.value a in omega (arith, ints));
      place = lowest n positive;
      reached = omega (arith, ints);
    }
