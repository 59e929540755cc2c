-- Which literals are the same, and what a literal weighs in positive terms over rising variables.
use Rattle.std.proofs.Common.{◌≡◌, ◌≢◌, ℕ, suc, ◌+◌, ◌<◌, ◌≤◌, List, [], ◌∷◌, get_or, map, min, refl, sym, ◌∙◌, ap, subst, arith, Bool, true, false, not, cond, eqb, All, inl, inr}
use Rattle.std.specs.Prelude.{◌⊎◌, AllPairs}
use Rattle.std.proofs.lemmas.Bool.{eqb-true, eq-eqb, ne_eqb, and_parts, cases_eq, cases_lt, cases_Bool}
use Rattle.std.proofs.lemmas.List.Elements.{All-nil, All-cons, All-head, All-tail, All-weaker}
use Rattle.std.proofs.lemmas.List.Sums.{sum_by-cons}
use Rattle.pb_inst.specs.Literal.{Literal}
use Rattle.pb_normal.specs.declared.terms.PositiveTerm.{PositiveTerm}
use Rattle.pb_normal.specs.Literals.{negation, same_sign, same_literal, weight_of}
use Rattle.pb_normal.specs.Merging.{clipped}

abbrev pub lit : ℕ → Bool → Literal
lit v b = record { var = v; positive = b }

abbrev pub term : ℕ → Literal → PositiveTerm
term c l = record { coef = c; lit = l }

-- later terms have greater variables
abbrev pub AreRising : List PositiveTerm → Type 0
AreRising terms = AllPairs (λ t u. t.lit.var < u.lit.var) terms

abbrev pub AreAbove : ℕ → List PositiveTerm → Type 0
AreAbove v terms = All (λ t. v < t.lit.var) terms

pub rising-tail : (t : PositiveTerm) (terms : List PositiveTerm) → AreRising (t ∷ terms) → AreRising terms
rising-tail t terms h = λ i j d before less. h (suc i) (suc j) d (omega arith) (omega arith)

pub rising-head : (t : PositiveTerm) (terms : List PositiveTerm) → AreRising (t ∷ terms) → AreAbove t.lit.var terms
rising-head t terms h = λ k d less. h 0 (suc k) d (omega arith) (omega arith)

pub same_sign-itself : (b : Bool) → same_sign b b ≡ true
same_sign-itself true = refl
same_sign-itself false = refl

pub same_sign-is : (a b : Bool) → same_sign a b ≡ true → a ≡ b
same_sign-is true b h = sym h
same_sign-is false true h = h
same_sign-is false false h = refl

-- the negation, by its parts
pub negation-is : (l m : Literal) → m.var ≡ l.var → m.positive ≡ not l.positive → m ≡ negation l
negation-is l m var sign = let whole : lit m.var m.positive ≡ lit l.var (not l.positive) = cc in whole

pub same_literal-itself : (l : Literal) → same_literal l l ≡ true
same_literal-itself l = rw (eq-eqb l.var l.var refl, same_sign-itself l.positive) refl

pub same_literal-is : (l m : Literal) → same_literal l m ≡ true → l ≡ m
same_literal-is l m h =
    let parts = and_parts (eqb l.var m.var) (same_sign l.positive m.positive) h in
    let vars : l.var ≡ m.var = eqb-true l.var m.var parts.0 in
    let positives : l.positive ≡ m.positive = same_sign-is l.positive m.positive parts.1 in
    let whole : lit l.var l.positive ≡ lit m.var m.positive = cc in whole

pub same_literal-other : (l m : Literal) → l.var ≢ m.var → same_literal l m ≡ false
same_literal-other l m h = rw (ne_eqb l.var m.var h) refl

-- of two literals of one variable one is another one
pub same_literal-at : (l m : Literal) → l.var ≡ m.var → same_literal l m ≡ same_sign l.positive m.positive
same_literal-at l m h = rw (eq-eqb l.var m.var h) refl

pub weight_of-nil : (l : Literal) → weight_of l [] ≡ 0
unfolding weight_of
weight_of-nil l = refl

pub weight_of-cons : (l : Literal) (t : PositiveTerm) (terms : List PositiveTerm) → weight_of l (t ∷ terms) ≡ cond (same_literal l t.lit) t.coef 0 + weight_of l terms
unfolding weight_of
weight_of-cons l t terms = sum_by-cons (λ (u : PositiveTerm). cond (same_literal l u.lit) u.coef 0) t terms

-- a term of another literal adds nothing
pub weight_of-skip : (l : Literal) (t : PositiveTerm) (terms : List PositiveTerm) → same_literal l t.lit ≡ false → weight_of l (t ∷ terms) ≡ weight_of l terms
weight_of-skip l t terms isnt = weight_of-cons l t terms ∙ rw isnt (omega arith)

-- a variable below all others has no weight
pub weight_of-above : (l : Literal) (terms : List PositiveTerm) → AreAbove l.var terms → weight_of l terms ≡ 0
weight_of-above l [] h = weight_of-nil l
weight_of-above l (t ∷ terms) h =
    let here : l.var < t.lit.var = All-head (λ (u : PositiveTerm). l.var < u.lit.var) t terms h in
    let rest = weight_of-above l terms (All-tail (λ (u : PositiveTerm). l.var < u.lit.var) t terms h) in
    weight_of-skip l t terms (same_literal-other l t.lit (λ e. omega arith)) ∙ rest

-- the first term's literal has its coefficient
pub weight_of-first : (t : PositiveTerm) (terms : List PositiveTerm) → AreRising (t ∷ terms) → weight_of t.lit (t ∷ terms) ≡ t.coef
weight_of-first t terms h =
    let rest = weight_of-above t.lit terms (rising-head t terms h) in
    weight_of-cons t.lit t terms ∙ rw (same_literal-itself t.lit, rest) (omega arith)

one_sign_differs : (p q : Bool) → (same_sign p q ≡ false) ⊎ (same_sign (not p) q ≡ false)
one_sign_differs true true = inr refl
one_sign_differs true false = inl refl
one_sign_differs false true = inl refl
one_sign_differs false false = inr refl

-- at most one of a literal and its negation stands there
pub one_sign : (l : Literal) (terms : List PositiveTerm) → AreRising terms → (weight_of l terms ≡ 0) ⊎ (weight_of (negation l) terms ≡ 0)
one_sign l [] h = inl (weight_of-nil l)
one_sign l (t ∷ terms) h = elim (cases_eq l.var t.lit.var) [
  | inl same ↦
      (let above : AreAbove l.var terms = subst (λ (v : ℕ). AreAbove v terms) (sym same) (rising-head t terms h) in
      elim (one_sign_differs l.positive t.lit.positive) [
        | inl e ↦ inl (weight_of-skip l t terms (same_literal-at l t.lit same ∙ e) ∙ weight_of-above l terms above)
        | inr e ↦ inr (weight_of-skip (negation l) t terms (same_literal-at (negation l) t.lit same ∙ e) ∙ weight_of-above (negation l) terms above)
      ])
  | inr isnt ↦
      (let this = weight_of-skip l t terms (same_literal-other l t.lit isnt) in
      let other = weight_of-skip (negation l) t terms (same_literal-other (negation l) t.lit isnt) in
      elim (one_sign l terms (rising-tail t terms h)) [ inl e ↦ inl (this ∙ e) | inr e ↦ inr (other ∙ e) ])
]

-- what stands there is reached by its weight
pub weight_of-here : (terms : List PositiveTerm) → AreRising terms → All (λ t. weight_of t.lit terms ≡ t.coef) terms
weight_of-here [] h = All-nil (λ (t : PositiveTerm). weight_of t.lit [] ≡ t.coef)
weight_of-here (t ∷ terms) h =
    let P : PositiveTerm → Type 0 = λ u. weight_of u.lit (t ∷ terms) ≡ u.coef in
    let above = rising-head t terms h in
    let rest : All P terms = λ k d less.
    (let u : PositiveTerm = get_or terms k d in
    let after : t.lit.var < u.lit.var = above k d less in
    weight_of-skip u.lit t terms (same_literal-other u.lit t.lit (λ e. omega arith)) ∙ weight_of-here terms (rising-tail t terms h) k d less) in
    All-cons P t terms (weight_of-first t terms h) rest

-- clipping clips each weight
pub weight_of-clipped : (l : Literal) (degree : ℕ) (terms : List PositiveTerm) → AreRising terms → weight_of l (map (clipped degree) terms) ≡ min (weight_of l terms) degree
weight_of-clipped l degree [] h = let nothing = weight_of-nil l in omega arith
weight_of-clipped l degree (t ∷ terms) h =
    let rest = weight_of-clipped l degree terms (rising-tail t terms h) in
    let whole = weight_of-cons l t terms in
    let cut = weight_of-cons l (clipped degree t) (map (clipped degree) terms) in
    elim (cases_Bool (same_literal l t.lit)) [
      | inl is ↦
          (let e : l ≡ t.lit = same_literal-is l t.lit is in
          let none : weight_of l terms ≡ 0 = weight_of-above l terms (subst (λ (m : Literal). AreAbove m.var terms) (sym e) (rising-head t terms h)) in
          let whole_is : weight_of l (t ∷ terms) ≡ t.coef + weight_of l terms = whole ∙ rw is refl in
          let cut_is : weight_of l (map (clipped degree) (t ∷ terms)) ≡ min t.coef degree + weight_of l (map (clipped degree) terms) = cut ∙ rw is refl in
          omega arith)
      | inr isnt ↦
          (let whole_is : weight_of l (t ∷ terms) ≡ 0 + weight_of l terms = whole ∙ rw isnt refl in
          let cut_is : weight_of l (map (clipped degree) (t ∷ terms)) ≡ 0 + weight_of l (map (clipped degree) terms) = cut ∙ rw isnt refl in
          omega arith)
    ]

-- positive terms over rising variables are fixed by what each literal weighs
pub weights_fix : (xs ys : List PositiveTerm) → All (λ t. 1 ≤ t.coef) xs → All (λ t. 1 ≤ t.coef) ys → AreRising xs → AreRising ys → ((l : Literal) → weight_of l xs ≡ weight_of l ys) → xs ≡ ys
weights_fix [] [] cx cy rx ry same = refl
weights_fix [] (y ∷ ys) cx cy rx ry same =
    let one : 1 ≤ y.coef = All-head (λ (t : PositiveTerm). 1 ≤ t.coef) y ys cy in
    let here = weight_of-first y ys ry in
    let nothing = weight_of-nil y.lit in
    let e = same y.lit in
    absurd (omega arith)
weights_fix (x ∷ xs) [] cx cy rx ry same =
    let one : 1 ≤ x.coef = All-head (λ (t : PositiveTerm). 1 ≤ t.coef) x xs cx in
    let here = weight_of-first x xs rx in
    let nothing = weight_of-nil x.lit in
    let e = same x.lit in
    absurd (omega arith)
weights_fix (x ∷ xs) (y ∷ ys) cx cy rx ry same =
    let P : PositiveTerm → Type 0 = λ t. 1 ≤ t.coef in
    let lits : x.lit ≡ y.lit = first_literal x y xs ys (All-head P x xs cx) (All-head P y ys cy) rx ry same in
    let coefs : x.coef ≡ y.coef =
    (let left = weight_of-first x xs rx in
    let right = weight_of-first y ys ry in
    sym left ∙ (same x.lit ∙ (ap (λ (l : Literal). weight_of l (y ∷ ys)) lits ∙ right))) in
    let firsts : x ≡ y = (let e : term x.coef x.lit ≡ term y.coef y.lit = cc in e) in
    let rest : (l : Literal) → weight_of l xs ≡ weight_of l ys = λ l.
    (let left = weight_of-cons l x xs in
    let right = weight_of-cons l y ys in
    let both = same l in
    let head : cond (same_literal l x.lit) x.coef 0 ≡ cond (same_literal l y.lit) y.coef 0 = ap (λ (t : PositiveTerm). cond (same_literal l t.lit) t.coef 0) firsts in
    omega arith) in
    let rests : xs ≡ ys = weights_fix xs ys (All-tail P x xs cx) (All-tail P y ys cy) (rising-tail x xs rx) (rising-tail y ys ry) rest in
    cc
  where
    -- a literal that weighs something is not below the first one
    not_below : (x y : PositiveTerm) (ys : List PositiveTerm) → AreRising (y ∷ ys) → 1 ≤ weight_of x.lit (y ∷ ys) → y.lit.var ≤ x.lit.var
    not_below x y ys ry some = elim (cases_lt x.lit.var y.lit.var) [
      | inl below ↦
          (let above : AreAbove x.lit.var ys = All-weaker (λ (t : PositiveTerm). y.lit.var < t.lit.var) (λ (t : PositiveTerm). x.lit.var < t.lit.var) (λ t h. omega arith) ys (rising-head y ys ry) in
          let nothing = weight_of-above x.lit (y ∷ ys) (All-cons (λ (t : PositiveTerm). x.lit.var < t.lit.var) y ys below above) in
          absurd (omega arith))
      | inr h ↦ h
    ]

    first_literal : (x y : PositiveTerm) (xs ys : List PositiveTerm) → 1 ≤ x.coef → 1 ≤ y.coef → AreRising (x ∷ xs) → AreRising (y ∷ ys) → ((l : Literal) → weight_of l (x ∷ xs) ≡ weight_of l (y ∷ ys)) → x.lit ≡ y.lit
    first_literal x y xs ys one_x one_y rx ry same =
        let left = weight_of-first x xs rx in
        let right = weight_of-first y ys ry in
        let at_x = same x.lit in
        let at_y = same y.lit in
        let low = not_below x y ys ry (omega arith) in
        let high = not_below y x xs rx (omega arith) in
        let vars : x.lit.var ≡ y.lit.var = omega arith in
        elim (cases_Bool (same_literal x.lit y.lit)) [
          | inl is ↦ same_literal-is x.lit y.lit is
          | inr isnt ↦
              (let above : AreAbove x.lit.var ys = subst (λ (v : ℕ). AreAbove v ys) (sym vars) (rising-head y ys ry) in
              let nothing : weight_of x.lit (y ∷ ys) ≡ 0 = weight_of-skip x.lit y ys isnt ∙ weight_of-above x.lit ys above in
              absurd (omega arith))
        ]
