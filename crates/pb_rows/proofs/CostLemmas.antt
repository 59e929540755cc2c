-- Building the table of the objective's coefficients.
use Rattle.std.proofs.Common.{◌≡◌, ◌≢◌, ℕ, ◌+◌, ◌-◌, ◌*◌, ◌<◌, ◌≤◌, List, [], length, get_or, set, take, replicate, refl, sym, ◌∙◌, ap, arith, Bool, true, false, cond, sum_by, inl, inr, length-set, get_or-set_same, get_or-set_other}
use Rattle.std.proofs.lemmas.Bool.{cases_Bool, eq-eqb, eqb-true}
use Rattle.std.proofs.lemmas.List.{length-replicate, get_or-replicate}
use Rattle.std.proofs.lemmas.List.Sums.{sum_by_more, sum_by_more_le_part}
use Rattle.pb_inst.specs.Literal.{Literal}
use Rattle.pb_normal.specs.declared.terms.PositiveTerm.{PositiveTerm}
use Rattle.pb_rows.specs.Costs.{AreCosts}
use Rattle.pb_rows.specs.Index.{literal_place}
use Rattle.pb_normal.specs.Literals.{same_literal, weight_of}
use Rattle.pb_rows.proofs.EntryLemmas.{same_place-same_literal}

pub weight_of-next : (l : Literal) (terms : List PositiveTerm) (i : ℕ) (d : PositiveTerm) → i < length terms → weight_of l (take (i + 1) terms) ≡ weight_of l (take i terms) + cond (same_literal l (get_or terms i d).lit) (get_or terms i d).coef 0
unfolding weight_of
weight_of-next l terms i d h = sum_by_more (λ (t : PositiveTerm). cond (same_literal l t.lit) t.coef 0) terms i d h

pub weight_of-within : (l : Literal) (terms : List PositiveTerm) (i : ℕ) (d : PositiveTerm) → i < length terms → weight_of l (take i terms) + (get_or terms i d).coef ≤ sum_by (λ (t : PositiveTerm). t.coef) terms
unfolding weight_of
weight_of-within l terms i d h = sum_by_more_le_part (λ (t : PositiveTerm). cond (same_literal l t.lit) t.coef 0) (λ (t : PositiveTerm). t.coef) terms i d h (λ t. at_most (same_literal l t.lit) t.coef)
  where
    at_most : (b : Bool) (n : ℕ) → cond b n 0 ≤ n
    at_most true n = omega arith
    at_most false n = omega arith

weight_of-nil : (l : Literal) → weight_of l [] ≡ 0
unfolding weight_of
weight_of-nil l = refl

pub place_below : (l : Literal) (vars : ℕ) → 1 ≤ l.var → l.var ≤ vars → literal_place l < 2 * vars
place_below l vars low high = by_sign l.positive
  where
    by_sign : (b : Bool) → 2 * (l.var - 1) + cond b 1 0 < 2 * vars
    by_sign true = omega arith
    by_sign false = omega arith

pub no_costs : (vars : ℕ) (costs : List ℕ) → costs ≡ replicate (2 * vars) 0 → AreCosts vars [] costs
no_costs vars costs is = rw is (record {
  count = length-replicate (2 * vars) 0;
  each = λ l low high. get_or-replicate (2 * vars) (literal_place l) 0 0 (place_below l vars low high) ∙ sym (weight_of-nil l);
})

pub costs_next : (vars : ℕ) (objective : List PositiveTerm) (i : ℕ) (t : PositiveTerm) (costs : List ℕ) (place : ℕ) → AreCosts vars (take i objective) costs → i < length objective → t ≡ get_or objective i t → 1 ≤ t.lit.var → t.lit.var ≤ vars → place ≡ literal_place t.lit → AreCosts vars (take (i + 1) objective) (set costs place (get_or costs place 0 + t.coef))
costs_next vars objective i t costs place are h read low high at = rw at (record {
  count = omega (arith, length-set costs (literal_place t.lit) (get_or costs (literal_place t.lit) 0 + t.coef), are.count);
  each = λ l from upto.
      (let next = weight_of-next l objective i t h in
      let same_term : ◌≡◌ {A = ℕ} (cond (same_literal l (get_or objective i t).lit) (get_or objective i t).coef 0) (cond (same_literal l t.lit) t.coef 0) = ap (λ (u : PositiveTerm). cond (same_literal l u.lit) u.coef 0) (sym read) in
      let places = same_place-same_literal l t.lit from low in
      let within = place_below t.lit vars low high in
      let short : literal_place t.lit < length costs = omega (arith, are.count) in
      let was = are.each l from upto in
      elim (cases_Bool (same_literal l t.lit)) [
        | inl same ↦
            (let place_is : literal_place t.lit ≡ literal_place l = eqb-true (literal_place t.lit) (literal_place l) (places ∙ same) in
            let own : ◌≡◌ {A = ℕ} (cond (same_literal l t.lit) t.coef 0) t.coef = rw same refl in
            let here : get_or (set costs (literal_place t.lit) (get_or costs (literal_place t.lit) 0 + t.coef)) (literal_place t.lit) 0 ≡ get_or costs (literal_place t.lit) 0 + t.coef = rw get_or-set_same refl in
            let moved : get_or (set costs (literal_place t.lit) (get_or costs (literal_place t.lit) 0 + t.coef)) (literal_place l) 0 ≡ get_or costs (literal_place l) 0 + t.coef = rw (← place_is) here in
            omega arith)
        | inr other ↦
            (let apart : literal_place l ≢ literal_place t.lit = λ e. (let on = eq-eqb (literal_place t.lit) (literal_place l) (sym e) in let none : ⊥ = cc in none) in
            let none : ◌≡◌ {A = ℕ} (cond (same_literal l t.lit) t.coef 0) 0 = rw other refl in
            let kept : get_or (set costs (literal_place t.lit) (get_or costs (literal_place t.lit) 0 + t.coef)) (literal_place l) 0 ≡ get_or costs (literal_place l) 0 = rw get_or-set_other refl in
            omega arith)
      ]);
})
