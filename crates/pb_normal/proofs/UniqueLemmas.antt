-- An instance has one normal form.
use Rattle.std.proofs.Common.{◌≡◌, ℕ, ℤ, List, refl, sym, ◌∙◌, ap, arith}
use Rattle.std.specs.Prelude.{pos}
use Rattle.std.specs.Int.{int_min}
use Rattle.std.specs.List.{flat_map}
use Rattle.std.proofs.lemmas.Int.{ints}
use Rattle.pb_inst.specs.Literal.{Literal}
use Rattle.pb_inst.specs.declared.constraints.Term.{Term}
use Rattle.pb_normal.specs.declared.terms.PositiveTerm.{PositiveTerm}
use Rattle.pb_normal.specs.Literals.{weight_of}
use Rattle.pb_normal.specs.Exact.{Inequality, surplus, inequalities, objective_terms, IsLeastValue, HasWeights, IsRowOf, AlwaysHolds, AreRowsOf, none, no_row, one_row, NormalFormIsUnique}
use Rattle.pb_normal.specs.NormalForm.{PositiveRow, NormalForm}
use Rattle.pb_normal.proofs.LiteralLemmas.{weights_fix}

-- a sum has one least value
one_least : (terms : List Term) (x y : ℤ) → IsLeastValue terms x → IsLeastValue terms y → x ≡ y
one_least terms x y first second =
    let low = first.below_all second.place in
    let high = second.below_all first.place in
    let at_first = first.reached in
    let at_second = second.reached in
    omega (arith, ints)

same_weights : (xs ys : List PositiveTerm) (f g : Literal → ℤ) → HasWeights xs f → HasWeights ys g → ((l : Literal) → f l ≡ g l) → xs ≡ ys
same_weights xs ys f g first second same = weights_fix xs ys first.coefficients second.coefficients first.rising second.rising (λ l.
    (let e : pos (weight_of l xs) ≡ pos (weight_of l ys) = first.weights l ∙ (same l ∙ sym (second.weights l)) in omega (arith, ints)))

row : List PositiveTerm → ℕ → PositiveRow
row terms degree = record { terms = terms; degree = degree }

one_row_only : (i : Inequality) (r s : PositiveRow) → IsRowOf i r → IsRowOf i s → r ≡ s
unfolding row
one_row_only i r s first second =
    let least = one_least i.terms _ _ first.least second.least in
    let degrees : r.degree ≡ s.degree = omega (arith, ints) in
    let terms : r.terms ≡ s.terms = same_weights r.terms s.terms _ _ first.terms second.terms (λ l. ap (λ (d : ℕ). int_min (pos d) (surplus l i.terms)) degrees) in
    let same : row r.terms r.degree ≡ row s.terms s.degree = cc in
    same

-- an inequality that always holds has no row
no_such_row : (i : Inequality) (r : PositiveRow) → AlwaysHolds i → IsRowOf i r → ⊥
no_such_row i r always h =
    let low = always h.least.place in
    let at = h.least.reached in
    let some = h.degree in
    omega (arith, ints)

same_rows : (is : List Inequality) (r s : List PositiveRow) → AreRowsOf is r → AreRowsOf is s → r ≡ s
same_rows _ _ s none none = refl
same_rows _ _ _ (no_row i is r always first) (no_row _ _ s _ second) = same_rows is r s first second
same_rows _ _ _ (no_row i is r always first) (one_row _ x _ s here second) = absurd (no_such_row i x always here)
same_rows _ _ _ (one_row i x is r here first) (no_row _ _ s always second) = absurd (no_such_row i x always here)
same_rows _ _ _ (one_row i x is r here first) (one_row _ y _ s there second) =
    let heads = one_row_only i x y here there in
    let rest = same_rows is r s first second in
    cc

pub one_form : NormalFormIsUnique
one_form p f g first second =
    let vars : f.vars ≡ g.vars = first.vars ∙ sym second.vars in
    let rows : f.rows ≡ g.rows = same_rows (flat_map inequalities p.constraints) f.rows g.rows first.rows second.rows in
    let bases : f.base ≡ g.base = one_least (objective_terms p) f.base g.base first.base second.base in
    let objectives : f.objective ≡ g.objective = same_weights f.objective g.objective _ _ first.objective second.objective (λ l. refl) in
    whole f.vars g.vars f.rows g.rows f.base g.base f.objective g.objective vars rows bases objectives
  where
    form : ℕ → List PositiveRow → ℤ → List PositiveTerm → NormalForm
    form vars rows base objective = record { vars = vars; rows = rows; base = base; objective = objective }

    whole : (v w : ℕ) (r s : List PositiveRow) (b c : ℤ) (o q : List PositiveTerm) → v ≡ w → r ≡ s → b ≡ c → o ≡ q → form v r b o ≡ form w s c q
    whole v w r s b c o q e1 e2 e3 e4 = cc
