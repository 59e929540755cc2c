-- A cube is false exactly where its clause is met, and has one clause at most.
use Rattle.std.proofs.Common.{◌≡◌, ℕ, zero, suc, ◌+◌, ◌*◌, ◌<◌, ◌≤◌, List, [], ◌∷◌, length, get_or, refl, sym, ◌∙◌, ap, subst, arith, Bool, true, sum_by, All, inl, inr}
use Rattle.std.specs.Prelude.{Any, Contains, ◌⊎◌}
use Rattle.std.proofs.lemmas.Bool.{cases_lt, cases_Bool}
use Rattle.std.proofs.lemmas.List.Elements.{All-nil, All-cons, All-head, All-tail, All-weaker, All-contains}
use Rattle.std.proofs.lemmas.List.Sums.{get_or-le-sum_by, sum_by-cons}
use Rattle.pb_inst.specs.Literal.{Literal}
use Rattle.pb_inst.specs.Meaning.{literal_value}
use Rattle.pb_inst.specs.Cubes.{MakesFalse}
use Rattle.pb_normal.specs.declared.terms.PositiveTerm.{PositiveTerm}
use Rattle.pb_normal.specs.NormalForm.{PositiveRow, MeetsRow, MeetsRows}
use Rattle.pb_normal.specs.Literals.{negation, same_literal, weight_of}
use Rattle.pb_normal.proofs.LiteralLemmas.{AreRising, rising-tail, same_literal-is, weight_of-nil, weight_of-skip, weight_of-first, weight_of-here, one_sign, weights_fix}
use Rattle.pb_rows.specs.Clauses.{IsContradictory, IsClauseOf, AreClausesOf, no_cube, no_clause, one_clause}
use Rattle.pb_rows.proofs.NegatedLemmas.{double_negation}
use Rattle.pb_trail.proofs.CompletionLemmas.{literal_value-negation}
use Rattle.pb_engine.specs.Laws.{ClausesSayCubesAreFalse}

-- a sum that is not 0 has a term that is not 0
some_term : (f : PositiveTerm → ℕ) (terms : List PositiveTerm) → 1 ≤ sum_by f terms → (k : ℕ) × ((k < length terms) × ((d : PositiveTerm) → 1 ≤ f (get_or terms k d)))
some_term f [] h = absurd (omega arith)
some_term f (t ∷ terms) h = elim (cases_lt 0 (f t)) [
  | inl here ↦ (0, (omega arith, λ d. omega arith))
  | inr nought ↦ (let later = some_term f terms (omega (arith, sum_by-cons f t terms)) in (suc later.0, (omega (arith, later.1.0), later.1.1)))
]

abbrev worth : List Bool → PositiveTerm → ℕ
worth a t = t.coef * literal_value a t.lit

-- a met clause has a literal that is true, whose negation in the cube is false
pub clause_met : (a : List Bool) (cube : List Literal) (row : PositiveRow) → IsClauseOf cube row → MeetsRow a row → MakesFalse a cube
clause_met a cube row is meets =
    let found = some_term (worth a) row.terms (omega (arith, is.degree)) in
    let d : PositiveTerm = record { coef = 0; lit = record { var = 1; positive = true } } in
    let t = get_or row.terms found.0 d in
    let false_one = not_zero t.coef (literal_value a t.lit) (literal_value a (negation t.lit)) (literal_value-negation a t.lit) (found.1.1 d) in
    let there = is.from_cube found.0 d found.1.0 in
    (there.0, negation t.lit, there.1, there.2, false_one)
  where
    not_zero : (n v w : ℕ) → v + w ≡ 1 → 1 ≤ n * v → w ≡ 0
    not_zero n zero w both some = absurd (let product : n * 0 ≡ 0 = omega arith in omega arith)
    not_zero n (suc v) w both some = omega arith

-- the negation of a false literal of the cube is true and meets the clause
pub clause_false : (a : List Bool) (cube : List Literal) (row : PositiveRow) → IsClauseOf cube row → MakesFalse a cube → MeetsRow a row
clause_false a cube row is (j, l, low, at, zero_l) =
    let there = is.whole j l low in
    met there.0 there.1 there.2 (there.4 ∙ ap negation at) there.3
  where
    met : (k : ℕ) (t : PositiveTerm) → k < length row.terms → t.lit ≡ negation l → get_or row.terms k t ≡ t → MeetsRow a row
    met k t exists lit_is here =
        let most = get_or-le-sum_by (worth a) row.terms k t exists in
        let unit : t.coef ≡ 1 = ap (λ (u : PositiveTerm). u.coef) (sym here) ∙ is.units k t exists in
        let value : literal_value a t.lit ≡ literal_value a (negation l) = ap (literal_value a) lit_is in
        let one : literal_value a t.lit ≡ 1 = omega (arith, literal_value-negation a l) in
        let product : worth a t ≡ 1 = rw (unit, one) refl in
        let same = ap (worth a) here in
        omega (arith, is.degree)

-- a cube with a literal and its negation is always false
pub contradictory_false : (a : List Bool) (cube : List Literal) → IsContradictory cube → MakesFalse a cube
contradictory_false a cube (k, l, low, at, there) = by_value (literal_value a l) refl
  where
    by_value : (v : ℕ) → literal_value a l ≡ v → MakesFalse a cube
    by_value zero is = (k, l, low, at, is)
    by_value (suc v) is = (there.0, negation l, there.1, there.2, omega (arith, literal_value-negation a l))

-- an assignment meets the clauses of cubes exactly where it makes each of the cubes false
pub clauses_met : (a : List Bool) (cubes : List (List Literal)) (rows : List PositiveRow) → AreClausesOf cubes rows → MeetsRows a rows → All (λ (cube : List Literal). MakesFalse a cube) cubes
clauses_met a _ _ no_cube meets = All-nil (MakesFalse a)
clauses_met a _ _ (no_clause cube cubes rows both are) meets = All-cons (MakesFalse a) cube cubes (contradictory_false a cube both) (clauses_met a cubes rows are meets)
clauses_met a _ _ (one_clause cube row cubes rows clause are) meets =
    All-cons (MakesFalse a) cube cubes (clause_met a cube row clause (All-head (MeetsRow a) row rows meets)) (clauses_met a cubes rows are (All-tail (MeetsRow a) row rows meets))

pub cubes_false : (a : List Bool) (cubes : List (List Literal)) (rows : List PositiveRow) → AreClausesOf cubes rows → All (λ (cube : List Literal). MakesFalse a cube) cubes → MeetsRows a rows
cubes_false a _ _ no_cube all = All-nil (MeetsRow a)
cubes_false a _ _ (no_clause cube cubes rows both are) all = cubes_false a cubes rows are (All-tail (MakesFalse a) cube cubes all)
cubes_false a _ _ (one_clause cube row cubes rows clause are) all =
    All-cons (MeetsRow a) row rows (clause_false a cube row clause (All-head (MakesFalse a) cube cubes all)) (cubes_false a cubes rows are (All-tail (MakesFalse a) cube cubes all))

-- a clause that is met is that of a false cube, and the other way round
pub clauses_exactly : ClausesSayCubesAreFalse
clauses_exactly a cubes rows are = (clauses_met a cubes rows are, cubes_false a cubes rows are)

-- how often a literal stands in a clause
once_or_not : (l : Literal) (terms : List PositiveTerm) → All (λ t. t.coef ≡ 1) terms → AreRising terms → (Any (λ t. t.lit ≡ l) terms × (weight_of l terms ≡ 1)) ⊎ (weight_of l terms ≡ 0)
once_or_not l [] units rising = inr (weight_of-nil l)
once_or_not l (t ∷ terms) units rising =
    let P : PositiveTerm → Type 0 = λ u. u.coef ≡ 1 in
    elim (cases_Bool (same_literal l t.lit)) [
      | inl is ↦
          (let e : l ≡ t.lit = same_literal-is l t.lit is in
          let one : t.coef ≡ 1 = All-head P t terms units in
          let weight : weight_of l (t ∷ terms) ≡ 1 = ap (λ (m : Literal). weight_of m (t ∷ terms)) e ∙ weight_of-first t terms rising ∙ one in
          inl ((zero, t, omega arith, refl, sym e), weight))
      | inr isnt ↦
          (let skip = weight_of-skip l t terms isnt in
          elim (once_or_not l terms (All-tail P t terms units) (rising-tail t terms rising)) [
            | inl there ↦ inl ((suc there.0.0, there.0.1, omega (arith, there.0.2), there.0.3, there.0.4), skip ∙ there.1)
            | inr none ↦ inr (skip ∙ none)
          ])
    ]

-- what stands in one clause of a cube stands in any other
in_other : (cube : List Literal) (r s : PositiveRow) (l : Literal) → IsClauseOf cube r → IsClauseOf cube s → Any (λ t. t.lit ≡ l) r.terms → Any (λ t. t.lit ≡ l) s.terms
in_other cube r s l first second (k, t, low, at, is) =
    let there : Contains cube (negation t.lit) = subst (λ (u : PositiveTerm). Contains cube (negation u.lit)) at (first.from_cube k t low) in
    subst (λ (m : Literal). Any (λ t. t.lit ≡ m) s.terms) (ap negation (ap negation is) ∙ double_negation l) (All-contains (λ (m : Literal). Any (λ t. t.lit ≡ negation m) s.terms) cube (negation t.lit) second.whole there)

no_weight : (l : Literal) (terms : List PositiveTerm) → All (λ t. t.coef ≡ 1) terms → AreRising terms → weight_of l terms ≡ 0 → Any (λ t. t.lit ≡ l) terms → ⊥
no_weight l terms units rising none (k, t, low, at, is) =
    let here : weight_of t.lit terms ≡ t.coef = subst (λ (u : PositiveTerm). weight_of u.lit terms ≡ u.coef) at (weight_of-here terms rising k t low) in
    let one : t.coef ≡ 1 = subst (λ (u : PositiveTerm). u.coef ≡ 1) at (units k t low) in
    let same : weight_of t.lit terms ≡ weight_of l terms = ap (λ (m : Literal). weight_of m terms) is in
    absurd (omega arith)

same_weight : (cube : List Literal) (r s : PositiveRow) (l : Literal) → IsClauseOf cube r → IsClauseOf cube s → weight_of l r.terms ≡ weight_of l s.terms
same_weight cube r s l first second = elim (once_or_not l r.terms first.units first.rising) [
  | inl here ↦ elim (once_or_not l s.terms second.units second.rising) [
    | inl there ↦ here.1 ∙ sym there.1
    | inr none ↦ absurd (no_weight l s.terms second.units second.rising none (in_other cube r s l first second here.0))
  ]
  | inr none ↦ elim (once_or_not l s.terms second.units second.rising) [
    | inl there ↦ absurd (no_weight l r.terms first.units first.rising none (in_other cube s r l second first there.0))
    | inr nought ↦ none ∙ sym nought
  ]
]

abbrev row : List PositiveTerm → ℕ → PositiveRow
row terms degree = record { terms = terms; degree = degree }

-- a cube has one clause
one_clause_only : (cube : List Literal) (r s : PositiveRow) → IsClauseOf cube r → IsClauseOf cube s → r ≡ s
one_clause_only cube r s first second =
    let P : PositiveTerm → Type 0 = λ t. t.coef ≡ 1 in
    let Q : PositiveTerm → Type 0 = λ t. 1 ≤ t.coef in
    let low : All Q r.terms = All-weaker P Q (λ t e. omega arith) r.terms first.units in
    let high : All Q s.terms = All-weaker P Q (λ t e. omega arith) s.terms second.units in
    let terms : r.terms ≡ s.terms = weights_fix r.terms s.terms low high first.rising second.rising (λ l. same_weight cube r s l first second) in
    let degrees : r.degree ≡ s.degree = first.degree ∙ sym second.degree in
    let same : row r.terms r.degree ≡ row s.terms s.degree = cc in
    same

-- a cube that contradicts itself has none: its clause would have a variable twice
no_such_clause : (cube : List Literal) (r : PositiveRow) → IsContradictory cube → IsClauseOf cube r → ⊥
no_such_clause cube r (k, l, low, at, other) is =
    let plain : Any (λ t. t.lit ≡ negation l) r.terms = subst (λ (m : Literal). Any (λ t. t.lit ≡ negation m) r.terms) at (is.whole k l low) in
    let turned : Any (λ t. t.lit ≡ l) r.terms = subst (λ (m : Literal). Any (λ t. t.lit ≡ m) r.terms) (double_negation l) (All-contains (λ (m : Literal). Any (λ t. t.lit ≡ negation m) r.terms) cube (negation l) is.whole other) in
    elim (one_sign l r.terms is.rising) [
      | inl nought ↦ no_weight l r.terms is.units is.rising nought turned
      | inr nought ↦ no_weight (negation l) r.terms is.units is.rising nought plain
    ]

-- cubes have one list of clauses
pub one_list : (cubes : List (List Literal)) (rows others : List PositiveRow) → AreClausesOf cubes rows → AreClausesOf cubes others → rows ≡ others
one_list _ _ _ no_cube no_cube = refl
one_list _ _ _ (no_clause cube cubes rows both first) (no_clause _ _ others _ second) = one_list cubes rows others first second
one_list _ _ _ (no_clause cube cubes rows both first) (one_clause _ y _ others there second) = absurd (no_such_clause cube y both there)
one_list _ _ _ (one_clause cube x cubes rows here first) (no_clause _ _ others both second) = absurd (no_such_clause cube x both here)
one_list _ _ _ (one_clause cube x cubes rows here first) (one_clause _ y _ others there second) =
    let heads = one_clause_only cube x y here there in
    let rest = one_list cubes rows others first second in
    cc
