-- The bound by disjoint rows is at most the cost of every completion.
use Rattle.std.proofs.Common.{◌≡◌, ◌≢◌, ℕ, ℤ, ◌+◌, ◌-◌, ◌*◌, ◌≤◌, List, [], ◌∷◌, length, get_or, refl, sym, ◌∙◌, ap, subst, arith, Bool, true, false, cond, sum_by, All, inl, inr, Some, None, replicate, zero, suc}
use Rattle.std.specs.Prelude.{is_none, pos, ◌≤ℤ◌, ◌+ℤ◌}
use Rattle.std.proofs.lemmas.Bool.{cases_Bool}
use Rattle.std.proofs.lemmas.Int.{ints}
use Rattle.std.proofs.lemmas.List.{length-replicate}
use Rattle.std.proofs.lemmas.List.Sums.{sum_by-cons}
use Rattle.pb_inst.specs.Literal.{Literal}
use Rattle.pb_inst.specs.Meaning.{literal_value}
use Rattle.pb_inst.specs.Cubes.{MakesTrue}
use Rattle.pb_normal.specs.declared.terms.PositiveTerm.{PositiveTerm}
use Rattle.pb_normal.specs.NormalForm.{PositiveRow, positive_value, NormalForm}
use Rattle.pb_normal.specs.Literals.{negation}
use Rattle.pb_trail.specs.Trail.{is_true, value_on, reached}
use Rattle.pb_trail.specs.Completion.{IsCompletion, IsLowerBound}
use Rattle.pb_row_bound.specs.DisjointRows.{has_cost, is_free, is_spare, spare, is_costly, costly, row_contributions, disjoint_bound}
use Rattle.pb_trail.proofs.AssumptionLemmas.{true_or_false}
use Rattle.pb_trail.proofs.CompletionLemmas.{true_in_completion, literal_value-negation}
use Rattle.pb_row_bound.proofs.DisjointLemmas.{worth, open_worth, Suffices, MarksFree, AreDisjointable, costly-cons, row_contributions_at_most}

-- a literal on the trail has a value
pub true_has_value : (trail : List Literal) (l : Literal) → is_true trail l ≡ true → is_free trail l ≡ false
true_has_value trail l on = by_sign l.positive refl
  where
    by_values : (x y : Bool) → (x ≡ true) → is_none (cond x (Some true) (cond y (Some false) None)) ≡ false
    by_values true y on = refl
    by_values false y on = absurd (let none : ⊥ = cc in none)

    by_other : (x y : Bool) → (y ≡ true) → is_none (cond x (Some true) (cond y (Some false) None)) ≡ false
    by_other true y on = refl
    by_other false true on = refl
    by_other false false on = absurd (let none : ⊥ = cc in none)

    by_sign : (b : Bool) → l.positive ≡ b → is_free trail l ≡ false
    by_sign true is = by_values (is_true trail (record { var = l.var; positive = true })) (is_true trail (record { var = l.var; positive = false })) (ap (λ (b : Bool). is_true trail (record { var = l.var; positive = b })) (sym is) ∙ on)
    by_sign false is = by_other (is_true trail (record { var = l.var; positive = true })) (is_true trail (record { var = l.var; positive = false })) (ap (λ (b : Bool). is_true trail (record { var = l.var; positive = b })) (sym is) ∙ on)

set_value : (trail : List Literal) (v : ℕ) → is_none (value_on trail v) ≡ false → value_on trail v ≢ None
set_value trail v some none = (let e : is_none (value_on trail v) ≡ true = ap is_none none in let no' : ⊥ = cc in no')

at_most_one : (a : List Bool) (l : Literal) → literal_value a l ≤ 1
at_most_one a l = omega (arith, literal_value-negation a l)

-- a literal that has a value and isn't on the trail is false in a completion
false_in_completion : (a : List Bool) (trail : List Literal) (l : Literal) → MakesTrue a trail → is_free trail l ≡ false → is_true trail l ≡ false → literal_value a l ≡ 0
false_in_completion a trail l makes some off = elim (cases_Bool (is_true trail (negation l))) [
  | inl on ↦ (let one = true_in_completion a trail (negation l) makes on in omega (arith, literal_value-negation a l))
  | inr also ↦ absurd (let on = true_or_false trail l.var l.positive (set_value trail l.var some) also in let none : ⊥ = cc in none)
]

-- what a row reaches in a completion is at most what can be had at no cost, and what its costly literals are worth
row_value : (a : List Bool) (objective : List PositiveTerm) (trail : List Literal) (terms : List PositiveTerm) → MakesTrue a trail → positive_value a terms ≤ spare objective trail terms + worth (literal_value a) (costly objective trail terms)
unfolding spare
row_value a objective trail [] makes = omega arith
row_value a objective trail (t ∷ terms) makes =
    let rest = row_value a objective trail terms makes in
    let value = sum_by-cons (λ (u : PositiveTerm). u.coef * literal_value a u.lit) t terms in
    let part = sum_by-cons (λ (u : PositiveTerm). cond (is_spare objective trail u.lit) u.coef 0) t terms in
    let picked = ap (worth (literal_value a)) (costly-cons objective trail t terms) in
    let product : t.coef * literal_value a t.lit ≤ t.coef = by_value t.coef (literal_value a t.lit) (at_most_one a t.lit) in
    elim (cases_Bool (is_true trail t.lit)) [
      | inl on ↦
          (let spared : ◌≡◌ {A = ℕ} (cond (is_spare objective trail t.lit) t.coef 0) t.coef = rw on refl in
          let more = longer (is_costly objective trail t.lit) picked in
          omega arith)
      | inr off ↦ elim (cases_Bool (is_free trail t.lit)) [
        | inl free ↦ elim (cases_Bool (has_cost objective t.lit)) [
          | inl costs ↦
              (let chosen : worth (literal_value a) (costly objective trail (t ∷ terms)) ≡ worth (literal_value a) (t ∷ costly objective trail terms) = picked ∙ rw (free, costs) refl in
              let whole = sum_by-cons (λ (u : PositiveTerm). u.coef * literal_value a u.lit) t (costly objective trail terms) in
              omega arith)
          | inr costless ↦
              (let spared : ◌≡◌ {A = ℕ} (cond (is_spare objective trail t.lit) t.coef 0) t.coef = rw (off, free, costless) refl in
              let more = longer (is_costly objective trail t.lit) picked in
              omega arith)
        ]
        | inr some ↦
            (let nought = false_in_completion a trail t.lit makes some off in
            let none : t.coef * literal_value a t.lit ≡ 0 = rw nought (omega arith) in
            let more = longer (is_costly objective trail t.lit) picked in
            omega arith)
      ]
    ]
  where
    by_value : (n v : ℕ) → v ≤ 1 → n * v ≤ n
    by_value n zero h = omega arith
    by_value n (suc zero) h = omega arith
    by_value n (suc (suc v)) h = absurd (omega arith)

    longer : (b : Bool) → worth (literal_value a) (costly objective trail (t ∷ terms)) ≡ worth (literal_value a) (cond b (t ∷ costly objective trail terms) (costly objective trail terms)) → worth (literal_value a) (costly objective trail terms) ≤ worth (literal_value a) (costly objective trail (t ∷ terms))
    longer true is = omega (arith, sum_by-cons (λ (u : PositiveTerm). u.coef * literal_value a u.lit) t (costly objective trail terms))
    longer false is = omega arith

completion_suffices : (a : List Bool) (objective : List PositiveTerm) (rows : List PositiveRow) (trail : List Literal) → IsCompletion rows trail a → All (Suffices (literal_value a) objective trail) rows
completion_suffices a objective rows trail whole k d h reach =
    let row = get_or rows k d in
    let meets = whole.meets_rows k d h in
    omega (arith, row_value a objective trail row.terms whole.makes_true)

-- where each literal counts 1, all of them count
abbrev pub one_each : Literal → ℕ
one_each l = 1

pub times_one : (terms : List PositiveTerm) → worth one_each terms ≡ sum_by (λ (t : PositiveTerm). t.coef) terms
times_one [] = refl
times_one (t ∷ terms) = omega (arith, times_one terms, sum_by-cons (λ (u : PositiveTerm). u.coef * 1) t terms, sum_by-cons (λ (u : PositiveTerm). u.coef) t terms)

pub ones_suffice : (objective : List PositiveTerm) (rows : List PositiveRow) (trail : List Literal) → All (Suffices one_each objective trail) rows
ones_suffice objective rows trail k d h reach = omega (arith, times_one (costly objective trail (get_or rows k d).terms))

-- a completion pays what the trail pays and what its other literals are worth
paid_and_open : (a : List Bool) (trail : List Literal) (objective : List PositiveTerm) → MakesTrue a trail → reached trail objective + open_worth (literal_value a) trail objective ≤ positive_value a objective
unfolding reached
paid_and_open a trail [] makes = omega arith
paid_and_open a trail (t ∷ terms) makes =
    let rest = paid_and_open a trail terms makes in
    let head = by_cases (is_true trail t.lit) (is_free trail t.lit) t.coef (literal_value a t.lit) (true_in_completion a trail t.lit makes) (true_has_value trail t.lit) in
    omega (arith, sum_by-cons (λ (u : PositiveTerm). cond (is_true trail u.lit) u.coef 0) t terms, sum_by-cons (λ (u : PositiveTerm). cond (is_free trail u.lit) (u.coef * literal_value a u.lit) 0) t terms, sum_by-cons (λ (u : PositiveTerm). u.coef * literal_value a u.lit) t terms)
  where
    by_cases : (on free : Bool) (n v : ℕ) → (on ≡ true → v ≡ 1) → (on ≡ true → free ≡ false) → cond on n 0 + cond free (n * v) 0 ≤ n * v
    by_cases true true n v one some = absurd (let e : true ≡ false = some refl in let none : ⊥ = cc in none)
    by_cases true false n v one some = (let is : v ≡ 1 = one refl in let product : n * v ≡ n = rw is (omega arith) in omega arith)
    by_cases false true n v one some = omega arith
    by_cases false false n v one some = omega arith

-- all together they are at most the whole objective
paid_and_all_open : (trail : List Literal) (objective : List PositiveTerm) → reached trail objective + open_worth one_each trail objective ≤ sum_by (λ (t : PositiveTerm). t.coef) objective
unfolding reached
paid_and_all_open trail [] = omega arith
paid_and_all_open trail (t ∷ terms) =
    let rest = paid_and_all_open trail terms in
    let head = by_cases (is_true trail t.lit) (is_free trail t.lit) t.coef (true_has_value trail t.lit) in
    omega (arith, sum_by-cons (λ (u : PositiveTerm). cond (is_true trail u.lit) u.coef 0) t terms, sum_by-cons (λ (u : PositiveTerm). cond (is_free trail u.lit) (u.coef * 1) 0) t terms, sum_by-cons (λ (u : PositiveTerm). u.coef) t terms)
  where
    by_cases : (on free : Bool) (n : ℕ) → (on ≡ true → free ≡ false) → cond on n 0 + cond free (n * 1) 0 ≤ n
    by_cases true true n some = absurd (let e : true ≡ false = some refl in let none : ⊥ = cc in none)
    by_cases true false n some = omega arith
    by_cases false true n some = omega arith
    by_cases false false n some = omega arith

unmarked_free : (trail : List Literal) (n : ℕ) → MarksFree trail (replicate n false)
unmarked_free trail n l low on = absurd (let off = nowhere n (l.var - 1) in let none : ⊥ = cc in none)
  where
    nowhere : (n i : ℕ) → get_or (replicate n false) i false ≡ false
    nowhere zero i = refl
    nowhere (suc n) zero = refl
    nowhere (suc n) (suc i) = nowhere n i

-- the rows, over the form's variables, are such that contributions of them add up
pub record ArePickable (form : NormalForm) (rows : List PositiveRow) : Type 0 where
  pub objective : All (λ (t : PositiveTerm). 1 ≤ t.lit.var) form.objective
  pub rows_are : AreDisjointable form.vars rows

start_rows : (form : NormalForm) (rows : List PositiveRow) → ArePickable form rows → AreDisjointable (length (replicate form.vars false)) rows
start_rows form rows are = subst (λ (n : ℕ). AreDisjointable n rows) (sym (length-replicate form.vars false)) are.rows_are

-- what the trail pays and all contributions are at most the whole objective
pub row_contributions_in_total : (form : NormalForm) (rows : List PositiveRow) (trail : List Literal) → ArePickable form rows → reached trail form.objective + row_contributions form.objective trail (replicate form.vars false) rows ≤ sum_by (λ (t : PositiveTerm). t.coef) form.objective
row_contributions_in_total form rows trail are =
    omega (arith, row_contributions_at_most one_each form.objective trail rows (replicate form.vars false) are.objective (start_rows form rows are) (ones_suffice form.objective rows trail) (unmarked_free trail form.vars), paid_and_all_open trail form.objective)

pub disjoint_is_bound : (form : NormalForm) (rows : List PositiveRow) (trail : List Literal) → ArePickable form rows → IsLowerBound form rows trail (disjoint_bound form rows trail)
disjoint_is_bound form rows trail are = record {
  below_costs = λ a whole.
      (let f = literal_value a in
      let most = row_contributions_at_most f form.objective trail rows (replicate form.vars false) are.objective (start_rows form rows are) (completion_suffices a form.objective rows trail whole) (unmarked_free trail form.vars) in
      let pays = paid_and_open a trail form.objective whole.makes_true in
      at_most form.base (reached trail form.objective + row_contributions form.objective trail (replicate form.vars false) rows) (positive_value a form.objective) (omega arith));
  paid = at_most form.base (reached trail form.objective) (reached trail form.objective + row_contributions form.objective trail (replicate form.vars false) rows) (omega arith);
}
  where
    at_most : (base : ℤ) (m n : ℕ) → m ≤ n → (base +ℤ pos m) ≤ℤ (base +ℤ pos n)
    at_most base m n h = omega (arith, ints)
