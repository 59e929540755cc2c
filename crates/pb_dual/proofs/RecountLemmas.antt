-- A row that is counted in another way while its multiplier is 0.
use Rattle.std.proofs.Common.{◌≡◌, ℕ, zero, suc, ◌+◌, ◌*◌, ◌<◌, ◌≤◌, List, [], ◌∷◌, ◌++◌, Option, Bool, length, get_or, set, take, drop, drop_of_length-le, refl, sym, ◌∙◌, ap, subst, arith, inl, inr, length-set, get_or-set_same, get_or-set_other}
use Rattle.std.proofs.lemmas.Bool.{cases_eq}
use Rattle.std.proofs.lemmas.List.{take_all}
use mathlib.Core.List.{append-nil}
use Rattle.std.proofs.lemmas.List.Elements.{All-set}
use Rattle.pb_inst.specs.Literal.{Literal}
use Rattle.pb_normal.specs.NormalForm.{PositiveRow, NormalForm, MeetsRow, MeetsRows}
use Rattle.pb_normal.specs.Literals.{weight_of}
use Rattle.pb_rows.specs.Constraints.{row_at}
use Rattle.pb_rows.specs.Index.{literal_place}
use Rattle.pb_trail.specs.Completion.{IsCompletion}
use Rattle.pb_dual.specs.Changes.{Change}
use Rattle.pb_dual.specs.ReducedCosts.{weighted}
use Rattle.pb_dual.specs.Saturation.{Saturation, counted_row, counted_rows, counted_form, saturation_at, IsWithinRow, AreSaturations}
use Rattle.pb_dual.specs.Multipliers.{AreKept}
use Rattle.pb_dual.proofs.SaturationLemmas.{length-counted, counted-at, counted-set, weighted-unused}

-- the degrees as they are counted are no greater
pub counted-less : (form : NormalForm) (ss : List Saturation) (root : ℕ) (trail : List Literal) → AreSaturations form ss root trail → (r : ℕ) → r < length (counted_rows ss form.rows) → (row_at (counted_rows ss form.rows) r).degree ≤ (row_at form.rows r).degree
counted-less form ss root trail are r h =
    let short : r < length form.rows = omega (arith, length-counted ss form.rows are.count) in
    let at = ap (λ (row : PositiveRow). row.degree) (counted-at ss form.rows r (record { terms = []; degree = 0 }) are.count short) in
    omega (arith, at, (are.within r short).less)

-- the saturation of one row is replaced
pub saturations-set : (form : NormalForm) (ss : List Saturation) (root : ℕ) (trail : List Literal) (row : ℕ) (s : Saturation) → AreSaturations form ss root trail → row < length form.rows → IsWithinRow (row_at form.rows row) s → ((a : List Bool) → IsCompletion form.rows (take root trail) a → MeetsRow a (counted_row s (row_at form.rows row))) → AreSaturations form (set ss row s) root trail
saturations-set form ss root trail row s are h within met = record {
  count = length-set ss row s ∙ are.count;
  within = λ r short. elim (cases_eq r row) [
    | inl here ↦
        (let at : saturation_at (set ss row s) r ≡ s = ap (saturation_at (set ss row s)) here ∙ get_or-set_same ss row s (record { most = 0; degree = 0 }) (omega (arith, h, are.count)) in
        subst (IsWithinRow (row_at form.rows r)) (sym at) (subst (λ (k : ℕ). IsWithinRow (row_at form.rows k) s) (sym here) within))
    | inr other ↦
        (let at : saturation_at (set ss row s) r ≡ saturation_at ss r = get_or-set_other ss row r s (record { most = 0; degree = 0 }) other in
        subst (IsWithinRow (row_at form.rows r)) (sym at) (are.within r short))
  ];
  on_trail = are.on_trail;
  met = λ a whole. subst (MeetsRows a) (sym (counted-set ss form.rows row s are.count h)) (All-set (MeetsRow a) (counted_rows ss form.rows) row (counted_row s (row_at form.rows row)) (met a whole) (are.met a whole));
}

-- what is kept beside the multipliers stays
pub kept-recounted : {form : NormalForm} {ss : List Saturation} {root : ℕ} {ys : List ℕ} {lits : List Literal} {changes : List Change} {origin scale total share : ℕ} {costs : List ℕ} {values : List (Option Bool)} {degrees sum capacity : ℕ} → AreKept (counted_form ss form) form ys lits changes origin scale total share costs values degrees sum capacity → AreSaturations form ss root lits → (row : ℕ) (s : Saturation) → row < length form.rows → get_or ys row 0 ≡ 0 → AreSaturations form (set ss row s) root lits → AreKept (counted_form (set ss row s) form) form ys lits changes origin scale total share costs values degrees sum capacity
kept-recounted {form = form} {ss = ss} {root = root} {ys = ys} {lits = lits} {changes = changes} {origin = origin} {scale = scale} {share = share} {costs = costs} kept are row s h none new =
    let before : length (counted_rows ss form.rows) ≡ length form.rows = length-counted ss form.rows are.count in
    let after : length (counted_rows (set ss row s) form.rows) ≡ length form.rows = length-counted (set ss row s) form.rows new.count in
    let same : length (counted_rows (set ss row s) form.rows) ≡ length (counted_rows ss form.rows) = after ∙ sym before in
    let worth : (f : PositiveRow → ℕ) → weighted f ys (counted_rows (set ss row s) form.rows) ≡ weighted f ys (counted_rows ss form.rows) = λ f. ap (weighted f ys) (counted-set ss form.rows row s are.count h) ∙ weighted-unused f ys (counted_rows ss form.rows) row (counted_row s (row_at form.rows row)) none in
    record {
      scale_from_one = kept.scale_from_one;
      total_is = kept.total_is;
      scaled = kept.scaled;
      shared = subst (λ (n : ℕ). share * n ≤ origin) (sym same) kept.shared;
      few = kept.few;
      count = kept.count ∙ sym same;
      one_each = kept.one_each;
      no_greater = counted-less form (set ss row s) root lits new;
      each_within = λ r short. kept.each_within r (omega arith);
      degrees_are = kept.degrees_are ∙ sym (worth (λ r. r.degree));
      costs_are = record {
        count = kept.costs_are.count;
        each = λ l low high. ap (λ (n : ℕ). get_or costs (literal_place l) 0 + n) (worth (λ r. weight_of l r.terms)) ∙ kept.costs_are.each l low high;
      };
      vars = kept.vars;
      values_are = kept.values_are;
      sum_is = kept.sum_is;
      changes_within = λ k d short. (omega (arith, (kept.changes_within k d short).0), (kept.changes_within k d short).1);
    }

-- rows up to a place from one list, and from there on from another
pub merged-next : (first second : List PositiveRow) (i : ℕ) (d : PositiveRow) → i < length first → i < length second → set (take i first ++ drop i second) i (get_or first i d) ≡ take (suc i) first ++ drop (suc i) second
merged-next [] second i d h k = absurd (omega arith)
merged-next (x ∷ first) [] i d h k = absurd (omega arith)
merged-next (x ∷ first) (y ∷ second) zero d h k = refl
merged-next (x ∷ first) (y ∷ second) (suc i) d h k = ap (λ (rest : List PositiveRow). x ∷ rest) (merged-next first second i d (omega arith) (omega arith))

pub merged-all : (first second : List PositiveRow) (i : ℕ) → length first ≤ i → length second ≤ i → take i first ++ drop i second ≡ first
merged-all first second i h k = ap (λ (rows : List PositiveRow). rows ++ drop i second) (take_all i first h) ∙ (ap (λ (rows : List PositiveRow). first ++ rows) (drop_of_length-le second k) ∙ append-nil first)
