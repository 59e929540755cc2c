-- Why what degrees and variables promise is at most the cost of every completion.
use Rattle.std.proofs.Common.{◌≡◌, ◌≢◌, ℕ, zero, suc, ◌+◌, ◌-◌, ◌*◌, ◌≤◌, List, [], ◌∷◌, length, get_or, refl, sym, ◌∙◌, ap, subst, arith, Bool, true, false, cond, All, inl, inr, Some, None}
use Rattle.std.proofs.lemmas.Bool.{cases_Bool, cases_eq}
use Rattle.std.proofs.lemmas.List.Elements.{All-head, All-tail}
use Rattle.std.proofs.lemmas.List.Sums.{sum_by-cons, sum_by-le-sum_by}
use Rattle.std.proofs.lemmas.Nat.{mul-le}
use Rattle.pb_inst.specs.Literal.{Literal}
use Rattle.pb_inst.specs.Meaning.{literal_value}
use Rattle.pb_inst.specs.Cubes.{MakesTrue}
use Rattle.pb_normal.specs.declared.terms.PositiveTerm.{PositiveTerm}
use Rattle.pb_normal.specs.NormalForm.{PositiveRow, NormalForm, positive_value, total_coefficient, MeetsRow, MeetsRows, IsNormal}
use Rattle.pb_normal.specs.Literals.{same_sign, same_literal, weight_of}
use Rattle.pb_normal.proofs.LiteralLemmas.{lit, AreRising, AreAbove, rising-head, rising-tail, same_literal-is, same_literal-other, same_literal-at, weight_of-nil, weight_of-cons, weight_of-skip, weight_of-above}
use Rattle.pb_trail.specs.Trail.{is_true}
use Rattle.pb_trail.specs.Completion.{IsCompletion}
use Rattle.pb_trail.proofs.CompletionLemmas.{true_in_completion}
use Rattle.pb_dual.specs.ReducedCosts.{weighted, promised, taken_off, reduced_cost, over_variables, least_cost, part_on, parts_on}

-- the sum over the variables keeps an order
pub over-le : (f g : ℕ → ℕ) (n : ℕ) → ((v : ℕ) → 1 ≤ v → v ≤ n → f v ≤ g v) → over_variables f n ≤ over_variables g n
over-le f g zero each = omega arith
over-le f g (suc n) each =
    let rest = over-le f g n (λ v low high. each v low (omega arith)) in
    let here = each (suc n) (omega arith) (omega arith) in
    omega arith

-- where the summands are the same, so are the sums
pub over-same : (f g : ℕ → ℕ) (n : ℕ) → ((v : ℕ) → 1 ≤ v → v ≤ n → f v ≡ g v) → over_variables f n ≡ over_variables g n
over-same f g zero each = refl
over-same f g (suc n) each =
    let rest = over-same f g n (λ v low high. each v low (omega arith)) in
    let here = each (suc n) (omega arith) (omega arith) in
    omega arith

-- the sum of sums
pub over-add : (f g : ℕ → ℕ) (n : ℕ) → over_variables (λ v. f v + g v) n ≡ over_variables f n + over_variables g n
over-add f g zero = refl
over-add f g (suc n) = (let rest = over-add f g n in omega arith)

-- the sum of multiples
pub over-scale : (k : ℕ) (f : ℕ → ℕ) (n : ℕ) → over_variables (λ v. k * f v) n ≡ k * over_variables f n
over-scale k f zero = omega arith
over-scale k f (suc n) = (let rest = over-scale k f n in omega arith)

-- the sum of one number
pub over-const : (k n : ℕ) → over_variables (λ v. k) n ≡ n * k
over-const k zero = omega arith
over-const k (suc n) = (let rest = over-const k n in omega arith)

-- the sum of nothing
pub over-none : (f : ℕ → ℕ) (n : ℕ) → ((v : ℕ) → 1 ≤ v → v ≤ n → f v ≡ 0) → over_variables f n ≡ 0
over-none f zero each = refl
over-none f (suc n) each =
    let rest = over-none f n (λ v low high. each v low (omega arith)) in
    let here = each (suc n) (omega arith) (omega arith) in
    omega arith

-- where one variable alone adds something, that is the sum
pub over-one : (f : ℕ → ℕ) (w n : ℕ) → 1 ≤ w → w ≤ n → ((v : ℕ) → v ≢ w → f v ≡ 0) → over_variables f n ≡ f w
over-one f w zero low high others = absurd (omega arith)
over-one f w (suc n) low high others = elim (cases_eq w (suc n)) [
  | inl same ↦
      (let before = over-none f n (λ v from upto. others v (λ e. omega arith)) in
      let here : f (suc n) ≡ f w = ap f (sym same) in
      omega arith)
  | inr isnt ↦
      (let rest = over-one f w n low (omega arith) others in
      let here = others (suc n) (λ e. isnt (sym e)) in
      omega arith)
]

-- the literal of the variable that the assignment makes true
abbrev pub chosen : List Bool → ℕ → Literal
chosen a v = lit v (get_or a (v - 1) false)

-- a literal is the chosen one of its variable where it is true
chosen-value : (a : List Bool) (l : Literal) (n : ℕ) → ◌≡◌ {A = ℕ} (cond (same_literal (chosen a l.var) l) n 0) (n * literal_value a l)
chosen-value a l n = ap (λ (b : Bool). cond b n 0) (same_literal-at (chosen a l.var) l refl) ∙ by_cases (get_or a (l.var - 1) false) l.positive
  where
    by_cases : (v p : Bool) → ◌≡◌ {A = ℕ} (cond (same_sign v p) n 0) (n * cond p (cond v 1 0) (1 - cond v 1 0))
    by_cases true true = omega arith
    by_cases true false = omega arith
    by_cases false true = omega arith
    by_cases false false = omega arith

-- the variables are from 1 to n
abbrev AreWithin : ℕ → List PositiveTerm → Type 0
AreWithin n terms = All (λ (t : PositiveTerm). (1 ≤ t.lit.var) × (t.lit.var ≤ n)) terms

-- the weights of the chosen literals are the value of the terms
pub over-weights : (a : List Bool) (n : ℕ) (terms : List PositiveTerm) → AreWithin n terms → over_variables (λ v. weight_of (chosen a v) terms) n ≡ positive_value a terms
over-weights a n [] within = over-none (λ v. weight_of (chosen a v) []) n (λ v low high. weight_of-nil (chosen a v))
over-weights a n (t ∷ terms) within =
    let P : PositiveTerm → Type 0 = λ u. (1 ≤ u.lit.var) × (u.lit.var ≤ n) in
    let here : P t = All-head P t terms within in
    let own : ℕ → ℕ = λ v. cond (same_literal (chosen a v) t.lit) t.coef 0 in
    let others : ℕ → ℕ = λ v. weight_of (chosen a v) terms in
    let split : over_variables (λ v. weight_of (chosen a v) (t ∷ terms)) n ≡ over_variables (λ v. own v + others v) n = over-same (λ v. weight_of (chosen a v) (t ∷ terms)) (λ v. own v + others v) n (λ v low high. weight_of-cons (chosen a v) t terms) in
    let one : over_variables own n ≡ t.coef * literal_value a t.lit = over-one own t.lit.var n here.0 here.1 (λ v isnt. rw (same_literal-other (chosen a v) t.lit isnt) refl) ∙ chosen-value a t.lit t.coef in
    let rest : over_variables others n ≡ positive_value a terms = over-weights a n terms (All-tail P t terms within) in
    let whole : over_variables (λ v. weight_of (chosen a v) (t ∷ terms)) n ≡ over_variables own n + over_variables others n = split ∙ over-add own others n in
    let value : positive_value a (t ∷ terms) ≡ t.coef * literal_value a t.lit + positive_value a terms = sum_by-cons (λ (u : PositiveTerm). u.coef * literal_value a u.lit) t terms in
    whole ∙ (ap (λ (m : ℕ). m + over_variables others n) one ∙ (ap (λ (m : ℕ). t.coef * literal_value a t.lit + m) rest ∙ sym value))

-- what a row is worth under an assignment
abbrev value_in : List Bool → PositiveRow → ℕ
value_in a row = positive_value a row.terms

-- what rows take off the chosen literals is what they are worth, each times its multiplier
pub over-taken : (a : List Bool) (n : ℕ) (ys : List ℕ) (rows : List PositiveRow) → All (λ (row : PositiveRow). AreWithin n row.terms) rows → over_variables (λ v. taken_off ys rows (chosen a v)) n ≡ weighted (value_in a) ys rows
over-taken a n [] rows within = over-none (λ v. 0) n (λ v low high. refl)
over-taken a n (y ∷ ys) [] within = over-none (λ v. 0) n (λ v low high. refl)
over-taken a n (y ∷ ys) (row ∷ rows) within =
    let P : PositiveRow → Type 0 = λ r. AreWithin n r.terms in
    let own : ℕ → ℕ = λ v. weight_of (chosen a v) row.terms in
    let others : ℕ → ℕ = λ v. taken_off ys rows (chosen a v) in
    let one : over_variables (λ v. y * own v) n ≡ y * value_in a row = over-scale y own n ∙ ap (λ (m : ℕ). y * m) (over-weights a n row.terms (All-head P row rows within)) in
    let rest : over_variables others n ≡ weighted (value_in a) ys rows = over-taken a n ys rows (All-tail P row rows within) in
    over-add (λ v. y * own v) others n ∙ (ap (λ (m : ℕ). m + over_variables others n) one ∙ ap (λ (m : ℕ). y * value_in a row + m) rest)

-- the degrees promise no more than the rows are worth where all of them are met
pub promised-le-worth : (a : List Bool) (ys : List ℕ) (rows : List PositiveRow) → MeetsRows a rows → promised ys rows ≤ weighted (value_in a) ys rows
promised-le-worth a [] rows meets = omega arith
promised-le-worth a (y ∷ ys) [] meets = omega arith
promised-le-worth a (y ∷ ys) (row ∷ rows) meets =
    let P : PositiveRow → Type 0 = λ r. MeetsRow a r in
    let rest : promised ys rows ≤ weighted (value_in a) ys rows = promised-le-worth a ys rows (All-tail P row rows meets) in
    let here : y * row.degree ≤ y * value_in a row = mul-le y row.degree y (value_in a row) (omega arith) (All-head P row rows meets) in
    omega arith

-- the weight of a literal is no more than all coefficients
pub weight-most : (l : Literal) (terms : List PositiveTerm) → weight_of l terms ≤ total_coefficient terms
unfolding weight_of
weight-most l terms = sum_by-le-sum_by (λ (t : PositiveTerm). cond (same_literal l t.lit) t.coef 0) (λ (t : PositiveTerm). t.coef) terms (λ t. at_most (same_literal l t.lit) t.coef)
  where
    at_most : (b : Bool) (n : ℕ) → cond b n 0 ≤ n
    at_most true n = omega arith
    at_most false n = omega arith

-- a literal comes once at most in terms over rising variables, so it weighs no more than the greatest coefficient
pub weight-le : (l : Literal) (m : ℕ) (terms : List PositiveTerm) → AreRising terms → All (λ (t : PositiveTerm). t.coef ≤ m) terms → weight_of l terms ≤ m
weight-le l m [] rising each = omega (arith, weight_of-nil l)
weight-le l m (t ∷ terms) rising each =
    let P : PositiveTerm → Type 0 = λ u. u.coef ≤ m in
    let here : t.coef ≤ m = All-head P t terms each in
    elim (cases_Bool (same_literal l t.lit)) [
      | inl is ↦
          (let none : weight_of l terms ≡ 0 = weight_of-above l terms (subst (λ (k : Literal). AreAbove k.var terms) (sym (same_literal-is l t.lit is)) (rising-head t terms rising)) in
          let whole : weight_of l (t ∷ terms) ≡ t.coef + weight_of l terms = weight_of-cons l t terms ∙ rw is refl in
          omega arith)
      | inr isnt ↦
          (let rest = weight-le l m terms (rising-tail t terms rising) (All-tail P t terms each) in
          let skip = weight_of-skip l t terms isnt in
          omega arith)
    ]

taken-le : (ys : List ℕ) (rows : List PositiveRow) (l : Literal) → All (λ (row : PositiveRow). weight_of l row.terms ≤ row.degree) rows → taken_off ys rows l ≤ promised ys rows
taken-le [] rows l each = omega arith
taken-le (y ∷ ys) [] l each = omega arith
taken-le (y ∷ ys) (row ∷ rows) l each =
    let P : PositiveRow → Type 0 = λ r. weight_of l r.terms ≤ r.degree in
    let rest : taken_off ys rows l ≤ promised ys rows = taken-le ys rows l (All-tail P row rows each) in
    let here : y * weight_of l row.terms ≤ y * row.degree = mul-le y (weight_of l row.terms) y row.degree (omega arith) (All-head P row rows each) in
    omega arith

-- rows take no more off a literal than their degrees promise
pub taken-le-promised : (form : NormalForm) (ys : List ℕ) (l : Literal) → IsNormal form → length ys ≡ length form.rows → taken_off ys form.rows l ≤ promised ys form.rows
taken-le-promised form ys l normal count = taken-le ys form.rows l (λ k d h.
    (let is = normal.shape.rows k d h in
    weight-le l (get_or form.rows k d).degree (get_or form.rows k d).terms is.terms.rising is.clipped))

-- a reduced cost is not cut off at 0
pub shift_of : (origin scale : ℕ) (form : NormalForm) (ys : List ℕ) (l : Literal) → IsNormal form → length ys ≡ length form.rows → promised ys form.rows ≤ origin → reduced_cost origin scale form ys l + taken_off ys form.rows l ≡ origin + scale * weight_of l form.objective
shift_of origin scale form ys l normal count fits = apart (origin + scale * weight_of l form.objective) (taken_off ys form.rows l) (low origin (scale * weight_of l form.objective) (taken_off ys form.rows l) (promised ys form.rows) (taken-le-promised form ys l normal count) fits)
  where
    apart : (m k : ℕ) → k ≤ m → (m - k) + k ≡ m
    apart m k h = omega arith

    low : (z c k p : ℕ) → k ≤ p → p ≤ z → k ≤ z + c
    low z c k p h fits = omega arith

-- a variable adds no more than the reduced cost of its literal that is true
pub part-le : (origin scale : ℕ) (form : NormalForm) (ys : List ℕ) (trail : List Literal) (a : List Bool) (v : ℕ) → MakesTrue a trail → part_on origin scale form ys trail v ≤ reduced_cost origin scale form ys (chosen a v)
part-le origin scale form ys trail a v makes = by_values (λ (b : Bool). reduced_cost origin scale form ys (lit v b)) (is_true trail (lit v true)) (is_true trail (lit v false)) (get_or a (v - 1) false) (λ on. is_one (get_or a (v - 1) false) (true_in_completion a trail (lit v true) makes on)) (λ on. is_nought (get_or a (v - 1) false) (true_in_completion a trail (lit v false) makes on))
  where
    is_one : (b : Bool) → ◌≡◌ {A = ℕ} (cond b 1 0) 1 → b ≡ true
    is_one true e = refl
    is_one false e = absurd (omega arith)

    is_nought : (b : Bool) → ◌≡◌ {A = ℕ} (1 - cond b 1 0) 1 → b ≡ false
    is_nought true e = absurd (omega arith)
    is_nought false e = refl

    by_values : (cost : Bool → ℕ) (x y b : Bool) → (x ≡ true → b ≡ true) → (y ≡ true → b ≡ false) → least_cost cost (cond x (Some true) (cond y (Some false) None)) ≤ cost b
    by_values cost true y true one nought = omega arith
    by_values cost true y false one nought = absurd (let e : false ≡ true = one refl in let none : ⊥ = cc in none)
    by_values cost false true true one nought = absurd (let e : true ≡ false = nought refl in let none : ⊥ = cc in none)
    by_values cost false true false one nought = omega arith
    by_values cost false false true one nought = omega arith
    by_values cost false false false one nought = omega arith

-- the reduced costs of the chosen literals and what the rows are worth are the scaled cost
pub over-reduced : (origin scale : ℕ) (form : NormalForm) (ys : List ℕ) (a : List Bool) → IsNormal form → length ys ≡ length form.rows → promised ys form.rows ≤ origin → over_variables (λ v. reduced_cost origin scale form ys (chosen a v)) form.vars + weighted (value_in a) ys form.rows ≡ form.vars * origin + scale * positive_value a form.objective
over-reduced origin scale form ys a normal count fits =
    let n = form.vars in
    let left : ℕ → ℕ = λ v. reduced_cost origin scale form ys (chosen a v) in
    let taken : ℕ → ℕ = λ v. taken_off ys form.rows (chosen a v) in
    let weights : ℕ → ℕ = λ v. weight_of (chosen a v) form.objective in
    let worth : over_variables taken n ≡ weighted (value_in a) ys form.rows = over-taken a n ys form.rows (λ k d h. (normal.shape.rows k d h).terms.variables) in
    let both : over_variables (λ v. left v + taken v) n ≡ over_variables left n + over_variables taken n = over-add left taken n in
    let same : over_variables (λ v. left v + taken v) n ≡ over_variables (λ v. origin + scale * weights v) n = over-same (λ v. left v + taken v) (λ v. origin + scale * weights v) n (λ v low high. shift_of origin scale form ys (chosen a v) normal count fits) in
    let costs : over_variables (λ v. scale * weights v) n ≡ scale * positive_value a form.objective = over-scale scale weights n ∙ ap (λ (m : ℕ). scale * m) (over-weights a n form.objective normal.shape.objective.variables) in
    let shifts : over_variables (λ v. origin) n ≡ n * origin = over-const origin n in
    let apart : over_variables (λ v. origin + scale * weights v) n ≡ over_variables (λ v. origin) n + over_variables (λ v. scale * weights v) n = over-add (λ v. origin) (λ v. scale * weights v) n in
    ap (λ (m : ℕ). over_variables left n + m) (sym worth) ∙ (sym both ∙ (same ∙ (apart ∙ (ap (λ (m : ℕ). m + over_variables (λ v. scale * weights v) n) shifts ∙ ap (λ (m : ℕ). n * origin + m) costs))))

-- what degrees and variables promise is at most the scaled cost of every completion
pub sound : (origin scale : ℕ) (form : NormalForm) (ys : List ℕ) (trail : List Literal) (a : List Bool) → IsNormal form → length ys ≡ length form.rows → promised ys form.rows ≤ origin → IsCompletion form.rows trail a → promised ys form.rows + parts_on origin scale form ys trail ≤ form.vars * origin + scale * positive_value a form.objective
unfolding parts_on
sound origin scale form ys trail a normal count fits whole =
    add_up (promised ys form.rows) (weighted (value_in a) ys form.rows) (over_variables (part_on origin scale form ys trail) form.vars) (over_variables (λ v. reduced_cost origin scale form ys (chosen a v)) form.vars) (form.vars * origin + scale * positive_value a form.objective)
    (promised-le-worth a ys form.rows whole.meets_rows)
    (over-le (part_on origin scale form ys trail) (λ v. reduced_cost origin scale form ys (chosen a v)) form.vars (λ v low high. part-le origin scale form ys trail a v whole.makes_true))
    (over-reduced origin scale form ys a normal count fits)
  where
    add_up : (p w o r t : ℕ) → p ≤ w → o ≤ r → r + w ≡ t → p + o ≤ t
    add_up p w o r t low least total = omega arith
