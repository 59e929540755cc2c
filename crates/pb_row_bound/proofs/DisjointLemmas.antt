-- The contributions of picked rows: every completion pays them.
use Rattle.std.proofs.Common.{◌≡◌, ◌≢◌, ℕ, ◌+◌, ◌-◌, ◌*◌, ◌<◌, ◌≤◌, List, [], ◌∷◌, length, get_or, set, fold, max, min, refl, sym, ◌∙◌, ap, subst, arith, Bool, true, false, not, ◌&&◌, ◌||◌, cond, sum_by, All, inl, inr, length-set, get_or-set_same, get_or-set_other}
use Rattle.std.specs.Int.{div_ceil}
use Rattle.std.specs.Prelude.{is_none, nat_lt}
use Rattle.std.proofs.Math.Nat.{mul-le-mul_right}
use Rattle.std.proofs.lemmas.Bool.{cases_Bool, cases_eq, cases_lt, and_parts, ltb-true, ltb-false}
use Rattle.std.proofs.lemmas.Grind.{div_ceil_times}
use Rattle.std.proofs.lemmas.List.Elements.{All-head, All-tail, All-cons, All-nil}
use Rattle.std.proofs.lemmas.List.Sums.{sum_by-cons}
use Rattle.pb_inst.specs.Literal.{Literal}
use Rattle.pb_normal.specs.declared.terms.PositiveTerm.{PositiveTerm}
use Rattle.pb_normal.specs.NormalForm.{PositiveRow}
use Rattle.pb_normal.proofs.LiteralLemmas.{AreRising, rising-tail, rising-head}
use Rattle.pb_normal.specs.Literals.{same_literal, weight_of}
use Rattle.pb_trail.specs.Trail.{value_on}
use Rattle.pb_row_bound.specs.DisjointRows.{has_cost, is_free, need, is_costly, costly, greatest, cheapest, top_cost, contribution_of, contribution, is_marked, meets_marks, marked_by, is_picked, row_contributions}
use Rattle.pb_normal.proofs.LiteralLemmas.{same_literal-is}
use Rattle.pb_normal.proofs.LiteralLemmas.{weight_of-cons, weight_of-nil}

-- what the terms are worth where a literal counts f, what they cost, and how many they are
abbrev pub worth : (Literal → ℕ) → List PositiveTerm → ℕ
worth f terms = sum_by (λ (t : PositiveTerm). t.coef * f t.lit) terms

abbrev pub price : (Literal → ℕ) → List PositiveTerm → List PositiveTerm → ℕ
price f objective terms = sum_by (λ (t : PositiveTerm). weight_of t.lit objective * f t.lit) terms

abbrev pub number : (Literal → ℕ) → List PositiveTerm → ℕ
number f terms = sum_by (λ (t : PositiveTerm). f t.lit) terms

pub worth_at_most : (f : Literal → ℕ) (g : ℕ) (terms : List PositiveTerm) → All (λ (t : PositiveTerm). t.coef ≤ g) terms → worth f terms ≤ g * number f terms
worth_at_most f g [] all = omega arith
worth_at_most f g (t ∷ terms) all =
    let head = mul-le-mul_right (f t.lit) (All-head (λ (u : PositiveTerm). u.coef ≤ g) t terms all) in
    let rest = worth_at_most f g terms (All-tail (λ (u : PositiveTerm). u.coef ≤ g) t terms all) in
    let apart : g * (f t.lit + number f terms) ≡ g * f t.lit + g * number f terms = omega arith in
    let both : g * number f (t ∷ terms) ≡ g * (f t.lit + number f terms) = ap (λ (n : ℕ). g * n) (sum_by-cons (λ (u : PositiveTerm). f u.lit) t terms) in
    omega (arith, sum_by-cons (λ (u : PositiveTerm). u.coef * f u.lit) t terms)

price_at_least : (f : Literal → ℕ) (objective : List PositiveTerm) (k : ℕ) (terms : List PositiveTerm) → All (λ (t : PositiveTerm). k ≤ weight_of t.lit objective) terms → k * number f terms ≤ price f objective terms
price_at_least f objective k [] all = omega arith
price_at_least f objective k (t ∷ terms) all =
    let head = mul-le-mul_right (f t.lit) (All-head (λ (u : PositiveTerm). k ≤ weight_of u.lit objective) t terms all) in
    let rest = price_at_least f objective k terms (All-tail (λ (u : PositiveTerm). k ≤ weight_of u.lit objective) t terms all) in
    let apart : k * (f t.lit + number f terms) ≡ k * f t.lit + k * number f terms = omega arith in
    let both : k * number f (t ∷ terms) ≡ k * (f t.lit + number f terms) = ap (λ (n : ℕ). k * n) (sum_by-cons (λ (u : PositiveTerm). f u.lit) t terms) in
    omega (arith, sum_by-cons (λ (u : PositiveTerm). weight_of u.lit objective * f u.lit) t terms)

-- a greatest number is at least what it starts with
fold_from : (most : ℕ) (terms : List PositiveTerm) → most ≤ fold (λ (m : ℕ) (t : PositiveTerm). max m t.coef) most terms
fold_from most [] = omega arith
fold_from most (t ∷ terms) = omega (arith, fold_from (max most t.coef) terms)

all_below : (most : ℕ) (terms : List PositiveTerm) → All (λ (t : PositiveTerm). t.coef ≤ fold (λ (m : ℕ) (u : PositiveTerm). max m u.coef) most terms) terms
all_below most [] = All-nil (λ (t : PositiveTerm). t.coef ≤ most)
all_below most (t ∷ terms) =
    let all = fold (λ (m : ℕ) (u : PositiveTerm). max m u.coef) (max most t.coef) terms in
    All-cons (λ (u : PositiveTerm). u.coef ≤ all) t terms (omega (arith, fold_from (max most t.coef) terms)) (all_below (max most t.coef) terms)

pub at_most_greatest : (terms : List PositiveTerm) → All (λ (t : PositiveTerm). t.coef ≤ greatest terms) terms
unfolding greatest
at_most_greatest terms = all_below 0 terms

cheapest_from : (objective : List PositiveTerm) (least : ℕ) (terms : List PositiveTerm) → cheapest objective least terms ≤ least
unfolding cheapest
cheapest_from objective least [] = omega arith
cheapest_from objective least (t ∷ terms) = omega (arith, cheapest_from objective (min least (weight_of t.lit objective)) terms)

pub at_least_cheapest : (objective : List PositiveTerm) (least : ℕ) (terms : List PositiveTerm) → All (λ (t : PositiveTerm). cheapest objective least terms ≤ weight_of t.lit objective) terms
unfolding cheapest
at_least_cheapest objective least [] = All-nil (λ (t : PositiveTerm). least ≤ weight_of t.lit objective)
at_least_cheapest objective least (t ∷ terms) =
    let low = cheapest objective (min least (weight_of t.lit objective)) terms in
    All-cons (λ (u : PositiveTerm). low ≤ weight_of u.lit objective) t terms (omega (arith, cheapest_from objective (min least (weight_of t.lit objective)) terms)) (at_least_cheapest objective (min least (weight_of t.lit objective)) terms)

-- a number of literals of at most g each that reach n is at least n divided by g, rounded up
enough_of : (n g q : ℕ) → 0 < n → n ≤ g * q → div_ceil n g ≤ q
enough_of n g q some reach = elim (cases_lt 0 g) [
  | inl positive ↦
      (let times = div_ceil_times n g positive in
      elim (cases_lt q (div_ceil n g)) [
        | inl more ↦
            (let product = mul-le-mul_right g (let step : q + 1 ≤ div_ceil n g = omega arith in step) in
            let apart : (q + 1) * g ≡ g * q + g = omega arith in
            absurd (omega (arith, times.1)))
        | inr fine ↦ fine
      ])
  | inr nought ↦ (let zero_g : g ≡ 0 = omega arith in let product : g * q ≡ 0 = rw zero_g (omega arith) in absurd (omega arith))
]

-- a count of literals that reaches the need pays the contribution
pub contribution_at_most : (f : Literal → ℕ) (objective : List PositiveTerm) (n : ℕ) (terms : List PositiveTerm) → (n ≤ sum_by (λ (t : PositiveTerm). t.coef) terms → n ≤ worth f terms) → contribution_of objective n terms ≤ price f objective terms
contribution_at_most f objective n terms enough = elim (cases_Bool (nat_lt 0 n && not (nat_lt (sum_by (λ (t : PositiveTerm). t.coef) terms) n))) [
  | inl yes' ↦
      (let parts = and_parts (nat_lt 0 n) (not (nat_lt (sum_by (λ (t : PositiveTerm). t.coef) terms) n)) yes' in
      let some : 0 < n = ltb-true 0 n parts.0 in
      let reach : n ≤ sum_by (λ (t : PositiveTerm). t.coef) terms = ltb-false (sum_by (λ (t : PositiveTerm). t.coef) terms) n (flip (nat_lt (sum_by (λ (t : PositiveTerm). t.coef) terms) n) parts.1) in
      let most = worth_at_most f (greatest terms) terms (at_most_greatest terms) in
      let least = price_at_least f objective (cheapest objective top_cost terms) terms (at_least_cheapest objective top_cost terms) in
      let many = enough_of n (greatest terms) (number f terms) some (omega (arith, enough reach)) in
      let product = mul-le-mul_right (cheapest objective top_cost terms) many in
      let turned : number f terms * cheapest objective top_cost terms ≡ cheapest objective top_cost terms * number f terms = omega arith in
      let is : contribution_of objective n terms ≡ div_ceil n (greatest terms) * cheapest objective top_cost terms = rw yes' refl in
      omega arith)
  | inr isnt ↦ (let is : contribution_of objective n terms ≡ 0 = rw isnt refl in omega arith)
]
  where
    flip : (b : Bool) → not b ≡ true → b ≡ false
    flip true h = sym h
    flip false h = refl

-- the worth of the terms of marked variables, and of those without a value
abbrev pub covered : (Literal → ℕ) → List Bool → List PositiveTerm → ℕ
covered f marks objective = sum_by (λ (t : PositiveTerm). cond (is_marked marks t.lit) (t.coef * f t.lit) 0) objective

abbrev pub open_worth : (Literal → ℕ) → List Literal → List PositiveTerm → ℕ
open_worth f trail objective = sum_by (λ (t : PositiveTerm). cond (is_free trail t.lit) (t.coef * f t.lit) 0) objective

marked_same : (marks : List Bool) (i : ℕ) (l : Literal) → i < length marks → l.var - 1 ≡ i → is_marked (set marks i true) l ≡ true
marked_same marks i l within at = rw at (let here : get_or (set marks i true) i false ≡ true = rw get_or-set_same refl in here)

marked_other : (marks : List Bool) (i : ℕ) (l : Literal) → l.var - 1 ≢ i → is_marked (set marks i true) l ≡ is_marked marks l
marked_other marks i l apart = rw get_or-set_other refl

-- one more variable is marked
covered-mark : (f : Literal → ℕ) (marks : List Bool) (l : Literal) (objective : List PositiveTerm) → l.var - 1 < length marks → is_marked marks l ≡ false → covered f marks objective + weight_of l objective * f l ≤ covered f (set marks (l.var - 1) true) objective
covered-mark f marks l [] within unmarked =
    let none = weight_of-nil l in
    let product : weight_of l [] * f l ≡ 0 = rw none (omega arith) in
    omega arith
covered-mark f marks l (u ∷ us) within unmarked =
    let rest = covered-mark f marks l us within unmarked in
    let before = sum_by-cons (λ (t : PositiveTerm). cond (is_marked marks t.lit) (t.coef * f t.lit) 0) u us in
    let after = sum_by-cons (λ (t : PositiveTerm). cond (is_marked (set marks (l.var - 1) true) t.lit) (t.coef * f t.lit) 0) u us in
    let weight : weight_of l (u ∷ us) * f l ≡ (cond (same_literal l u.lit) u.coef 0 + weight_of l us) * f l = ap (λ (n : ℕ). n * f l) (weight_of-cons l u us) in
    let apart : (cond (same_literal l u.lit) u.coef 0 + weight_of l us) * f l ≡ cond (same_literal l u.lit) u.coef 0 * f l + weight_of l us * f l = omega arith in
    let head : cond (is_marked marks u.lit) (u.coef * f u.lit) 0 + cond (same_literal l u.lit) u.coef 0 * f l ≤ cond (is_marked (set marks (l.var - 1) true) u.lit) (u.coef * f u.lit) 0 =
    elim (cases_eq (u.lit.var - 1) (l.var - 1)) [
      | inl at ↦
          (let on = marked_same marks (l.var - 1) u.lit within at in
          let off : is_marked marks u.lit ≡ false = ap (λ (i : ℕ). get_or marks i false) at ∙ unmarked in
          rw (on, off) (own (same_literal l u.lit) u.coef (f l) (f u.lit) (λ same. ap f (same_literal-is l u.lit same))))
      | inr other ↦
          (let kept = marked_other marks (l.var - 1) u.lit other in
          let differs : same_literal l u.lit ≡ false = not_same (same_literal l u.lit) (λ same. other (sym (ap (λ (m : Literal). m.var - 1) (same_literal-is l u.lit same)))) in
          rw (kept, differs) (omega arith))
    ] in
    omega arith
  where
    own : (b : Bool) (n v w : ℕ) → (b ≡ true → v ≡ w) → 0 + cond b n 0 * v ≤ n * w
    own true n v w same = (let e : v ≡ w = same refl in rw e (omega arith))
    own false n v w same = omega arith

    not_same : (b : Bool) → (b ≡ true → ⊥) → b ≡ false
    not_same true h = absurd (h refl)
    not_same false h = refl

-- marks of other variables leave the row's own as they are
meets-other : (trail : List Literal) (marks : List Bool) (i : ℕ) (terms : List PositiveTerm) → All (λ (t : PositiveTerm). t.lit.var - 1 ≢ i) terms → meets_marks trail (set marks i true) terms ≡ meets_marks trail marks terms
unfolding meets_marks
meets-other trail marks i [] all = refl
meets-other trail marks i (t ∷ terms) all =
    let here = marked_other marks i t.lit (All-head (λ (u : PositiveTerm). u.lit.var - 1 ≢ i) t terms all) in
    let rest = meets-other trail marks i terms (All-tail (λ (u : PositiveTerm). u.lit.var - 1 ≢ i) t terms all) in
    rw (here, rest) refl

meets-cons : (trail : List Literal) (marks : List Bool) (t : PositiveTerm) (terms : List PositiveTerm) → meets_marks trail marks (t ∷ terms) ≡ ((is_free trail t.lit && is_marked marks t.lit) || meets_marks trail marks terms)
unfolding meets_marks
meets-cons trail marks t terms = refl

marked_by-cons : (trail : List Literal) (marks : List Bool) (t : PositiveTerm) (terms : List PositiveTerm) → marked_by trail marks (t ∷ terms) ≡ marked_by trail (cond (is_free trail t.lit) (set marks (t.lit.var - 1) true) marks) terms
unfolding marked_by
marked_by-cons trail marks t terms = refl

marked_by-nil : (trail : List Literal) (marks : List Bool) → marked_by trail marks [] ≡ marks
unfolding marked_by
marked_by-nil trail marks = refl

pub costly-cons : (objective : List PositiveTerm) (trail : List Literal) (t : PositiveTerm) (terms : List PositiveTerm) → costly objective trail (t ∷ terms) ≡ cond (is_costly objective trail t.lit) (t ∷ costly objective trail terms) (costly objective trail terms)
unfolding costly
costly-cons objective trail t terms = refl

pub costly-nil : (objective : List PositiveTerm) (trail : List Literal) → costly objective trail [] ≡ []
unfolding costly
costly-nil objective trail = refl

-- the terms are over the variables 1 to n
abbrev pub AreWithin : ℕ → List PositiveTerm → Type 0
AreWithin n terms = All (λ t. (1 ≤ t.lit.var) × (t.lit.var ≤ n)) terms

or_parts : (a b : Bool) → (a || b) ≡ false → (a ≡ false) × (b ≡ false)
or_parts true b h = absurd (let none : ⊥ = cc in none)
or_parts false b h = (refl, h)

-- a picked row's variables cover what its costly literals cost
pub covered-marked_by : (f : Literal → ℕ) (objective : List PositiveTerm) (trail : List Literal) (terms : List PositiveTerm) (marks : List Bool) → AreRising terms → AreWithin (length marks) terms → meets_marks trail marks terms ≡ false → covered f marks objective + price f objective (costly objective trail terms) ≤ covered f (marked_by trail marks terms) objective
covered-marked_by f objective trail [] marks rising within unmet =
    let none = ap (price f objective) (costly-nil objective trail) in
    let same = ap (λ (ms : List Bool). covered f ms objective) (marked_by-nil trail marks) in
    omega arith
covered-marked_by f objective trail (t ∷ terms) marks rising within unmet =
    let all = All-tail (λ (u : PositiveTerm). (1 ≤ u.lit.var) × (u.lit.var ≤ length marks)) t terms within in
    let own = All-head (λ (u : PositiveTerm). (1 ≤ u.lit.var) × (u.lit.var ≤ length marks)) t terms within in
    let parts = or_parts (is_free trail t.lit && is_marked marks t.lit) (meets_marks trail marks terms) (sym (meets-cons trail marks t terms) ∙ unmet) in
    let picked = costly-cons objective trail t terms in
    elim (cases_Bool (is_free trail t.lit)) [
      | inl free ↦
          (let next = set marks (t.lit.var - 1) true in
          let unmarked : is_marked marks t.lit ≡ false = second (is_free trail t.lit) (is_marked marks t.lit) free parts.0 in
          let step = covered-mark f marks t.lit objective (omega arith) unmarked in
          let others : All (λ (u : PositiveTerm). u.lit.var - 1 ≢ t.lit.var - 1) terms = λ k d h. (let above = rising-head t terms rising k d h in λ e. omega arith) in
          let long : length next ≡ length marks = length-set marks (t.lit.var - 1) true in
          let rest = covered-marked_by f objective trail terms next (rising-tail t terms rising) (subst (λ (n : ℕ). AreWithin n terms) (sym long) all) (meets-other trail marks (t.lit.var - 1) terms others ∙ parts.1) in
          let last = ap (λ (ms : List Bool). covered f ms objective) (marked_by-cons trail marks t terms ∙ ap (λ (b : Bool). marked_by trail (cond b next marks) terms) free) in
          let cost = price_of (has_cost objective t.lit) (ap (price f objective) (picked ∙ ap (λ (b : Bool). cond (b && has_cost objective t.lit) (t ∷ costly objective trail terms) (costly objective trail terms)) free)) in
          omega arith)
      | inr set' ↦
          (let rest = covered-marked_by f objective trail terms marks (rising-tail t terms rising) all parts.1 in
          let last = ap (λ (ms : List Bool). covered f ms objective) (marked_by-cons trail marks t terms ∙ ap (λ (b : Bool). marked_by trail (cond b (set marks (t.lit.var - 1) true) marks) terms) set') in
          let cost = ap (price f objective) (picked ∙ ap (λ (b : Bool). cond (b && has_cost objective t.lit) (t ∷ costly objective trail terms) (costly objective trail terms)) set') in
          omega arith)
    ]
  where
    second : (a b : Bool) → a ≡ true → (a && b) ≡ false → b ≡ false
    second true b on h = h
    second false b on h = absurd (let none : ⊥ = cc in none)

    price_of : (b : Bool) → price f objective (costly objective trail (t ∷ terms)) ≡ price f objective (cond (true && b) (t ∷ costly objective trail terms) (costly objective trail terms)) → price f objective (costly objective trail (t ∷ terms)) ≤ weight_of t.lit objective * f t.lit + price f objective (costly objective trail terms)
    price_of true is = omega (arith, sum_by-cons (λ (u : PositiveTerm). weight_of u.lit objective * f u.lit) t (costly objective trail terms))
    price_of false is = omega arith

-- only variables without a value are marked
abbrev pub MarksFree : List Literal → List Bool → Type 0
MarksFree trail marks = (l : Literal) → 1 ≤ l.var → is_marked marks l ≡ true → is_free trail l ≡ true

marks_free-mark : (trail : List Literal) (marks : List Bool) (m : Literal) → m.var - 1 < length marks → 1 ≤ m.var → is_free trail m ≡ true → MarksFree trail marks → MarksFree trail (set marks (m.var - 1) true)
marks_free-mark trail marks m within low free before l from on = elim (cases_eq (l.var - 1) (m.var - 1)) [
  | inl at ↦ (let same : l.var ≡ m.var = omega arith in ap (λ (v : ℕ). is_none (value_on trail v)) same ∙ free)
  | inr other ↦ before l from (sym (marked_other marks (m.var - 1) l other) ∙ on)
]

pub length-marked_by : (trail : List Literal) (terms : List PositiveTerm) (marks : List Bool) → length (marked_by trail marks terms) ≡ length marks
length-marked_by trail [] marks = ap (λ (ms : List Bool). length ms) (marked_by-nil trail marks)
length-marked_by trail (t ∷ terms) marks =
    ap (λ (ms : List Bool). length ms) (marked_by-cons trail marks t terms)
    ∙ (length-marked_by trail terms (cond (is_free trail t.lit) (set marks (t.lit.var - 1) true) marks) ∙ by_case (is_free trail t.lit))
  where
    by_case : (b : Bool) → length (cond b (set marks (t.lit.var - 1) true) marks) ≡ length marks
    by_case true = length-set marks (t.lit.var - 1) true
    by_case false = refl

marks_free-by : (trail : List Literal) (terms : List PositiveTerm) (marks : List Bool) → AreWithin (length marks) terms → MarksFree trail marks → MarksFree trail (marked_by trail marks terms)
marks_free-by trail [] marks within before = subst (MarksFree trail) (sym (marked_by-nil trail marks)) before
marks_free-by trail (t ∷ terms) marks within before =
    let all = All-tail (λ (u : PositiveTerm). (1 ≤ u.lit.var) × (u.lit.var ≤ length marks)) t terms within in
    let own = All-head (λ (u : PositiveTerm). (1 ≤ u.lit.var) × (u.lit.var ≤ length marks)) t terms within in
    subst (MarksFree trail) (sym (marked_by-cons trail marks t terms))
    (elim (cases_Bool (is_free trail t.lit)) [
      | inl free ↦
          (let long : length (set marks (t.lit.var - 1) true) ≡ length marks = length-set marks (t.lit.var - 1) true in
          rw free (marks_free-by trail terms (set marks (t.lit.var - 1) true) (subst (λ (n : ℕ). AreWithin n terms) (sym long) all) (marks_free-mark trail marks t.lit (omega arith) own.0 free before)))
      | inr set' ↦ rw set' (marks_free-by trail terms marks all before)
    ])

-- enough costly literals of the row count to reach its need, where all of them together do
abbrev pub Suffices : (Literal → ℕ) → List PositiveTerm → List Literal → PositiveRow → Type 0
Suffices f objective trail row =
    need objective trail row ≤ sum_by (λ (t : PositiveTerm). t.coef) (costly objective trail row.terms) → need objective trail row ≤ worth f (costly objective trail row.terms)

-- marked variables have no value, so they are worth no more than all of those
covered_at_most : (f : Literal → ℕ) (trail : List Literal) (marks : List Bool) (objective : List PositiveTerm) → All (λ (t : PositiveTerm). 1 ≤ t.lit.var) objective → MarksFree trail marks → covered f marks objective ≤ open_worth f trail objective
covered_at_most f trail marks [] low free = omega arith
covered_at_most f trail marks (u ∷ us) low free =
    let rest = covered_at_most f trail marks us (All-tail (λ (t : PositiveTerm). 1 ≤ t.lit.var) u us low) free in
    let head = at_most (is_marked marks u.lit) (is_free trail u.lit) (u.coef * f u.lit) (free u.lit (All-head (λ (t : PositiveTerm). 1 ≤ t.lit.var) u us low)) in
    omega (arith, sum_by-cons (λ (t : PositiveTerm). cond (is_marked marks t.lit) (t.coef * f t.lit) 0) u us, sum_by-cons (λ (t : PositiveTerm). cond (is_free trail t.lit) (t.coef * f t.lit) 0) u us)
  where
    at_most : (a b : Bool) (n : ℕ) → (a ≡ true → b ≡ true) → cond a n 0 ≤ cond b n 0
    at_most true true n h = omega arith
    at_most true false n h = absurd (let e : false ≡ true = h refl in let none : ⊥ = cc in none)
    at_most false b n h = omega arith

pub row_contribution : (f : Literal → ℕ) (objective : List PositiveTerm) (trail : List Literal) (row : PositiveRow) → Suffices f objective trail row → contribution objective trail row ≤ price f objective (costly objective trail row.terms)
unfolding contribution
row_contribution f objective trail row enough = contribution_at_most f objective (need objective trail row) (costly objective trail row.terms) enough

-- the rows' terms are of the marks' variables, and none comes twice in a row
abbrev pub AreDisjointable : ℕ → List PositiveRow → Type 0
AreDisjointable n rows = All (λ row. AreRising row.terms × AreWithin n row.terms) rows

-- a count that reaches the need of every row pays all contributions, beside what is covered already
pub row_contributions_at_most : (f : Literal → ℕ) (objective : List PositiveTerm) (trail : List Literal) (rows : List PositiveRow) (marks : List Bool) → All (λ (t : PositiveTerm). 1 ≤ t.lit.var) objective → AreDisjointable (length marks) rows → All (Suffices f objective trail) rows → MarksFree trail marks → row_contributions objective trail marks rows + covered f marks objective ≤ open_worth f trail objective
row_contributions_at_most f objective trail [] marks low rows_are enough free = omega (arith, covered_at_most f trail marks objective low free)
row_contributions_at_most f objective trail (row ∷ rows) marks low rows_are enough free =
    let P : PositiveRow → Type 0 = λ r. AreRising r.terms × AreWithin (length marks) r.terms in
    let own = All-head P row rows rows_are in
    let later = All-tail P row rows rows_are in
    let rest_enough = All-tail (Suffices f objective trail) row rows enough in
    elim (cases_Bool (is_picked objective trail marks row)) [
      | inl picked ↦
          (let parts = and_parts (nat_lt 0 (contribution objective trail row)) (not (meets_marks trail marks row.terms)) picked in
          let unmet = flip (meets_marks trail marks row.terms) parts.1 in
          let next = marked_by trail marks row.terms in
          let more = covered-marked_by f objective trail row.terms marks own.0 own.1 unmet in
          let pays = row_contribution f objective trail row (All-head (Suffices f objective trail) row rows enough) in
          let long : length next ≡ length marks = length-marked_by trail row.terms marks in
          let rest = row_contributions_at_most f objective trail rows next low (subst (λ (n : ℕ). AreDisjointable n rows) (sym long) later) rest_enough (marks_free-by trail row.terms marks own.1 free) in
          let is : row_contributions objective trail marks (row ∷ rows) ≡ contribution objective trail row + row_contributions objective trail next rows = rw picked refl in
          omega arith)
      | inr passed ↦
          (let rest = row_contributions_at_most f objective trail rows marks low later rest_enough free in
          let is : row_contributions objective trail marks (row ∷ rows) ≡ row_contributions objective trail marks rows = rw passed refl in
          omega arith)
    ]
  where
    flip : (b : Bool) → not b ≡ true → b ≡ false
    flip true h = sym h
    flip false h = refl
