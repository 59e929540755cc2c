-- What holds where all multipliers are 0.
use Rattle.std.proofs.Common.{◌≡◌, ℕ, ◌+◌, ◌-◌, ◌*◌, ◌<◌, ◌≤◌, List, [], ◌∷◌, length, get_or, set, take, replicate, refl, sym, ◌∙◌, ap, subst, arith, All, Bool, true, false, cond, inl, inr, length-set, min, Option, None}
use Rattle.std.proofs.lemmas.Bool.{cases_Bool}
use Rattle.std.proofs.lemmas.List.{length-replicate, get_or-replicate}
use Rattle.std.proofs.lemmas.Nat.{mul-le}
use Rattle.pb_inst.specs.declared.limits.TheConstants.{MAX_VARS}
use Rattle.pb_inst.specs.Literal.{Literal}
use Rattle.pb_normal.specs.NormalForm.{PositiveRow, NormalForm, total_coefficient, IsNormal}
use Rattle.pb_normal.specs.declared.terms.PositiveTerm.{PositiveTerm}
use Rattle.pb_normal.specs.Literals.{same_literal, weight_of}
use Rattle.pb_normal.proofs.LiteralLemmas.{lit, weight_of-nil, same_literal-is, one_sign}
use Rattle.pb_rows.specs.Index.{literal_place}
use Rattle.pb_rows.specs.Constraints.{row_at}
use Rattle.pb_rows.proofs.CostLemmas.{weight_of-next, weight_of-within, place_below}
use Rattle.pb_trail.proofs.TrackedLemmas.{AreValues-nil}
use Rattle.pb_dual.specs.ReducedCosts.{weighted, AreReducedCosts, over_variables, part, parts}
use Rattle.pb_dual.specs.Multipliers.{AreKept}
use Rattle.pb_dual.specs.Changes.{Change}
use Rattle.pb_dual.proofs.ChangeLemmas.{place-set}
use Rattle.pb_dual.proofs.SoundLemmas.{over-same, over-const}

-- at each literal's place stands the origin and its scaled weight in the terms
pub record AreStarting (vars origin scale : ℕ) (terms : List PositiveTerm) (costs : List ℕ) : Type 0 where
  pub count : length costs ≡ 2 * vars
  pub each : (l : Literal) → 1 ≤ l.var → l.var ≤ vars → get_or costs (literal_place l) 0 ≡ origin + scale * weight_of l terms

-- no terms have been added
pub starting-first : (vars origin scale : ℕ) (costs : List ℕ) → costs ≡ replicate (2 * vars) origin → AreStarting vars origin scale [] costs
starting-first vars origin scale costs is = rw is (record {
  count = length-replicate (2 * vars) origin;
  each = λ l low high. (let filled = get_or-replicate (2 * vars) (literal_place l) origin 0 (place_below l vars low high) in let none = ap (λ (w : ℕ). scale * w) (weight_of-nil l) in omega arith);
})

-- the variable of the next term is one of the form's
pub starting-variable : (form : NormalForm) (terms : List PositiveTerm) (i : ℕ) (t : PositiveTerm) → IsNormal form → terms ≡ form.objective → i < length terms → t ≡ get_or terms i t → (1 ≤ t.lit.var) × (t.lit.var ≤ form.vars)
starting-variable form terms i t normal is h read =
    let P : PositiveTerm → Type 0 = λ u. (1 ≤ u.lit.var) × (u.lit.var ≤ form.vars) in
    let each : All P terms = subst (λ (us : List PositiveTerm). All P us) (sym is) normal.shape.objective.variables in
    subst P (sym read) (each i t h)

-- the cost of the next term fits beside what stands at its literal's place
pub starting-fits : (origin scale : ℕ) (terms : List PositiveTerm) (i : ℕ) (t : PositiveTerm) (here : ℕ) → i < length terms → t ≡ get_or terms i t → here ≡ origin + scale * weight_of t.lit (take i terms) → scale * total_coefficient terms < 2 * origin → here + scale * t.coef < 3 * origin
starting-fits origin scale terms i t here h read is small =
    let coef : t.coef ≡ (get_or terms i t).coef = ap (λ (u : PositiveTerm). u.coef) read in
    let w = weight_of t.lit (take i terms) in
    let within : w + t.coef ≤ total_coefficient terms = omega (arith, weight_of-within t.lit terms i t h) in
    let scaled : scale * (w + t.coef) ≤ scale * total_coefficient terms = mul-le scale (w + t.coef) scale (total_coefficient terms) (omega arith) within in
    let spread : scale * (w + t.coef) ≡ scale * w + scale * t.coef = omega arith in
    omega arith

-- what is asked of the next term: its literal is one of the form's, and its cost fits beside what stands at the literal's place
pub record IsNext (form : NormalForm) (origin scale : ℕ) (costs : List ℕ) (t : PositiveTerm) : Type 0 where
  pub low : 1 ≤ t.lit.var
  pub high : t.lit.var ≤ form.vars
  pub place : literal_place t.lit < length costs
  pub fits : get_or costs (literal_place t.lit) 0 + scale * t.coef < 3 * origin

pub starting-term : (form : NormalForm) (origin scale : ℕ) (terms : List PositiveTerm) (i : ℕ) (t : PositiveTerm) (costs : List ℕ) → IsNormal form → terms ≡ form.objective → scale * total_coefficient form.objective < 2 * origin → i < length terms → t ≡ get_or terms i t → AreStarting form.vars origin scale (take i terms) costs → IsNext form origin scale costs t
starting-term form origin scale terms i t costs normal is small h read are =
    let within = starting-variable form terms i t normal is h read in
    let scaled : scale * total_coefficient terms < 2 * origin = subst (λ (us : List PositiveTerm). scale * total_coefficient us < 2 * origin) (sym is) small in
    record {
      low = within.0;
      high = within.1;
      place = omega (arith, are.count, place_below t.lit form.vars within.0 within.1);
      fits = starting-fits origin scale terms i t (get_or costs (literal_place t.lit) 0) h read (are.each t.lit within.0 within.1) scaled;
    }

-- one more term has been added
pub starting-next : (vars origin scale : ℕ) (terms : List PositiveTerm) (i : ℕ) (t : PositiveTerm) (costs : List ℕ) (place : ℕ) → AreStarting vars origin scale (take i terms) costs → i < length terms → t ≡ get_or terms i t → 1 ≤ t.lit.var → t.lit.var ≤ vars → place ≡ literal_place t.lit → AreStarting vars origin scale (take (i + 1) terms) (set costs place (get_or costs place 0 + scale * t.coef))
starting-next vars origin scale terms i t costs place are h read low high at = rw at (record {
  count = omega (arith, length-set costs (literal_place t.lit) (get_or costs (literal_place t.lit) 0 + scale * t.coef), are.count);
  each = λ m from upto.
      (let n = get_or costs (literal_place t.lit) 0 + scale * t.coef in
      let short : literal_place t.lit < length costs = omega (arith, are.count, place_below t.lit vars low high) in
      let placed = place-set costs t.lit m n low from short in
      let w = weight_of m (take i terms) in
      let next : weight_of m (take (i + 1) terms) ≡ w + cond (same_literal m t.lit) t.coef 0 = weight_of-next m terms i t h ∙ ap (λ (u : PositiveTerm). w + cond (same_literal m u.lit) u.coef 0) (sym read) in
      let was = are.each m from upto in
      elim (cases_Bool (same_literal m t.lit)) [
        | inl same ↦
            (let here : get_or costs (literal_place m) 0 ≡ get_or costs (literal_place t.lit) 0 = ap (λ (l : Literal). get_or costs (literal_place l) 0) (same_literal-is m t.lit same) in
            let value : get_or (set costs (literal_place t.lit) n) (literal_place m) 0 ≡ n = placed ∙ rw same refl in
            let weight : weight_of m (take (i + 1) terms) ≡ w + t.coef = next ∙ rw same refl in
            let scaled : scale * weight_of m (take (i + 1) terms) ≡ scale * w + scale * t.coef = ap (λ (k : ℕ). scale * k) weight ∙ (let spread : scale * (w + t.coef) ≡ scale * w + scale * t.coef = omega arith in spread) in
            omega arith)
        | inr other ↦
            (let value : get_or (set costs (literal_place t.lit) n) (literal_place m) 0 ≡ get_or costs (literal_place m) 0 = placed ∙ rw other refl in
            let weight : weight_of m (take (i + 1) terms) ≡ w + 0 = next ∙ rw other refl in
            let scaled : scale * weight_of m (take (i + 1) terms) ≡ scale * w = ap (λ (k : ℕ). scale * k) weight ∙ (let plain : scale * (w + 0) ≡ scale * w = omega arith in plain) in
            omega arith)
      ]);
})

-- rows whose multipliers are 0 are worth nothing
pub weighted-none : (worth : PositiveRow → ℕ) (rows : List PositiveRow) → weighted worth (replicate (length rows) 0) rows ≡ 0
weighted-none worth [] = refl
weighted-none worth (row ∷ rows) = omega (arith, weighted-none worth rows)

-- so the scaled costs are the reduced costs
pub starting-reduced : (origin scale : ℕ) (form : NormalForm) (costs : List ℕ) → AreStarting form.vars origin scale form.objective costs → AreReducedCosts origin scale form (replicate (length form.rows) 0) costs
starting-reduced origin scale form costs are = record {
  count = are.count;
  each = λ l low high. (let none = weighted-none (λ row. weight_of l row.terms) form.rows in let here = are.each l low high in omega arith);
}

-- one literal of each variable costs nothing, so no variable without a value adds anything
pub starting-parts : (origin scale : ℕ) (form : NormalForm) (costs : List ℕ) (values : List (Option Bool)) (n : ℕ) → IsNormal form → AreReducedCosts origin scale form (replicate (length form.rows) 0) costs → n ≡ form.vars → values ≡ replicate n None → n * origin ≡ parts costs values
unfolding parts
starting-parts origin scale form costs values n normal are vars unset = rw unset (
    let count : length (replicate {A = Option Bool} n None) ≡ n = length-replicate n None in
    let f : ℕ → ℕ = λ v. part costs v (get_or (replicate {A = Option Bool} n None) (v - 1) None) in
    let upto : over_variables f (length (replicate {A = Option Bool} n None)) ≡ over_variables f n = ap (over_variables f) count in
    sym (upto ∙ (over-same f (λ v. origin) n (λ v low high. one v low high) ∙ over-const origin n)))
  where
    cost : (l : Literal) → 1 ≤ l.var → l.var ≤ n → get_or costs (literal_place l) 0 ≡ origin + scale * weight_of l form.objective
    cost l low high = (let none = weighted-none (λ row. weight_of l row.terms) form.rows in let here = are.each l low (omega arith) in omega arith)

    lesser : (v : ℕ) → 1 ≤ v → v ≤ n → min (get_or costs (literal_place (lit v true)) 0) (get_or costs (literal_place (lit v false)) 0) ≡ origin
    lesser v low high =
        let plain = cost (lit v true) low high in
        let negated = cost (lit v false) low high in
        elim (one_sign (lit v true) form.objective normal.shape.objective.rising) [
          | inl e ↦ (let scaled = ap (λ (w : ℕ). scale * w) e in omega arith)
          | inr e ↦ (let scaled : scale * weight_of (lit v false) form.objective ≡ scale * 0 = ap (λ (w : ℕ). scale * w) e in omega arith)
        ]

    one : (v : ℕ) → 1 ≤ v → v ≤ n → part costs v (get_or (replicate {A = Option Bool} n None) (v - 1) None) ≡ origin
    one v low high = ap (part costs v) (get_or-replicate n (v - 1) None None (omega arith)) ∙ lesser v low high

-- multipliers of 0, an empty trail and no changes, with what is kept beside them
pub kept-first : (form : NormalForm) (ys : List ℕ) (lits : List Literal) (changes : List Change) (origin scale total share : ℕ) (costs : List ℕ) (values : List (Option Bool)) (degrees sum capacity : ℕ) → IsNormal form → 1 ≤ scale → total ≡ total_coefficient form.objective → scale * total < 2 * origin → share * length form.rows ≤ origin → degrees ≡ 0 → ys ≡ replicate (length form.rows) 0 → lits ≡ [] → changes ≡ [] → AreReducedCosts origin scale form (replicate (length form.rows) 0) costs → values ≡ replicate form.vars None → form.vars ≤ capacity → form.vars ≤ MAX_VARS → sum ≡ form.vars * origin → AreKept form form ys lits changes origin scale total share costs values degrees sum capacity
kept-first form ys lits changes origin scale total share costs values degrees sum capacity normal from_one total_is fits shared none_promised zeros empty unchanged are unset room few sum_is = rw (zeros, unchanged) (record {
  scale_from_one = from_one;
  total_is = total_is;
  scaled = fits;
  shared = shared;
  few = few;
  count = length-replicate (length form.rows) 0;
  one_each = length-replicate (length form.rows) 0;
  no_greater = λ r h. omega arith;
  each_within = λ r h. (let none = get_or-replicate {A = ℕ} (length form.rows) r 0 0 h in let product : get_or (replicate (length form.rows) 0) r 0 * (row_at form.rows r).degree ≡ 0 * (row_at form.rows r).degree = ap (λ (y : ℕ). y * (row_at form.rows r).degree) none in omega arith);
  degrees_are = none_promised ∙ sym (weighted-none (λ row. row.degree) form.rows);
  costs_are = are;
  vars = ap (λ (vs : List (Option Bool)). length vs) unset ∙ length-replicate form.vars None;
  values_are = AreValues-nil values lits capacity form.vars unset empty room (omega arith);
  sum_is = sum_is ∙ starting-parts origin scale form costs values form.vars normal are refl unset;
  changes_within = λ k d h. absurd (omega arith);
})
