-- What the values and the sum of the parts say of the trail, and why the bound is one.
use Rattle.std.proofs.Common.{◌≡◌, ◌≢◌, ℕ, ◌+◌, ◌-◌, ◌*◌, ◌^◌, ◌<◌, ◌≤◌, List, [], ◌∷◌, ◌++◌, length, get_or, take, refl, sym, ◌∙◌, ap, subst, arith, Bool, true, false, Option, Some, None, min, inl, inr}
use Rattle.std.specs.Prelude.{ℤ, pos, ◌+ℤ◌, ◌≤ℤ◌, unsigned_abs, FitsSigned}
use Rattle.std.specs.Int.{div_ceil}
use Rattle.std.proofs.lemmas.Bool.{cases_lt}
use Rattle.std.proofs.lemmas.Grind.{div_ceil_times}
use Rattle.std.proofs.lemmas.Int.{ints, to_z-of_z, to_z_pos, fits_signed_from_abs}
use Rattle.std.proofs.lemmas.List.Elements.{All-push, All-take}
use Rattle.std.proofs.lemmas.Nat.{mul-le}
use mir.Val.{to_z, of_z}
use Rattle.pb_inst.specs.declared.limits.TheConstants.{SUM_BOUND}
use Rattle.pb_inst.proofs.NumberWidth.{number_width}
use Rattle.pb_inst.specs.Literal.{Literal}
use Rattle.pb_inst.specs.Meaning.{literal_value}
use Rattle.pb_normal.specs.NormalForm.{PositiveRow, NormalForm, MeetsRows, IsNormal, normal_cost, positive_value, total_coefficient}
use Rattle.pb_normal.specs.Literals.{weight_of}
use Rattle.pb_normal.proofs.RowLemmas.{positive_value-opposite}
use Rattle.pb_rows.specs.Constraints.{row_at}
use Rattle.pb_rows.specs.Index.{literal_place}
use Rattle.pb_trail.specs.Completion.{HasNoCompletion, IsCompletion}
use Rattle.pb_trail.specs.Tracked.{AreValues}
use Rattle.pb_trail.specs.Trail.{value_on}
use Rattle.pb_trail.proofs.TrailLemmas.{value_on-same, value_on-other}
use Rattle.pb_dual.specs.Changes.{Change}
use Rattle.pb_dual.specs.ReducedCosts.{promised, taken_off, reduced_cost, IsReducedCost, AreReducedCosts, cost_at, over_variables, least_cost, part, part_on, parts, parts_on}
use Rattle.pb_dual.specs.Multipliers.{MultipliersState, bound_from, dual_bound, penalty, promised_above, IsBelowCosts, IsBelowCostsWith, IsWithinShare, AreKept}
use Rattle.pb_dual.specs.Saturation.{Saturation, counted_rows, counted_form, AreSaturations}
use Rattle.pb_dual.proofs.SaturationLemmas.{counted-normal}
use Rattle.pb_dual.proofs.SoundLemmas.{over-same, sound, weight-most}
use Rattle.pb_dual.proofs.ChangeLemmas.{over-changed, over-most, promised-most, sum-fits}

-- a quotient that is rounded up is no more than a number whose multiple is no less
ceil_le : (n scale k : ℕ) → 1 ≤ scale → n ≤ scale * k → div_ceil n scale ≤ k
ceil_le n scale k low most = by_times (div_ceil n scale) (div_ceil_times n scale (omega arith)).1
  where
    by_times : (d : ℕ) → d * scale < n + scale → d ≤ k
    by_times d times = elim (cases_lt k d) [
      | inl more ↦ (let long = mul-le (k + 1) scale d scale (omega arith) (omega arith) in let spread : (k + 1) * scale ≡ scale * k + scale = omega arith in absurd (omega arith))
      | inr h ↦ h
    ]

-- and no less than one whose multiple is no more
le_ceil : (n scale k : ℕ) → 1 ≤ scale → scale * k ≤ n → k ≤ div_ceil n scale
le_ceil n scale k low least = by_times (div_ceil n scale) (div_ceil_times n scale (omega arith)).0
  where
    by_times : (d : ℕ) → n ≤ d * scale → k ≤ d
    by_times d times = elim (cases_lt d k) [
      | inl less ↦ (let long = mul-le (d + 1) scale k scale (omega arith) (omega arith) in let spread : (d + 1) * scale ≡ d * scale + scale = omega arith in absurd (omega arith))
      | inr h ↦ h
    ]

-- it is the same to cut off before the division
ceil_min : (n scale total : ℕ) → 1 ≤ scale → div_ceil (min n (scale * total)) scale ≡ min total (div_ceil n scale)
ceil_min n scale total low = elim (cases_lt n (scale * total)) [
  | inl less ↦
      (let most = ceil_le n scale total low (omega arith) in
      ap (λ (m : ℕ). div_ceil m scale) (first n (scale * total) (omega arith)) ∙ sym (second total (div_ceil n scale) most))
  | inr more ↦
      (let whole : div_ceil (scale * total) scale ≡ total = same (div_ceil (scale * total) scale) total (ceil_le (scale * total) scale total low (omega arith)) (le_ceil (scale * total) scale total low (omega arith)) in
      let least = le_ceil n scale total low more in
      ap (λ (m : ℕ). div_ceil m scale) (second n (scale * total) more) ∙ (whole ∙ sym (first total (div_ceil n scale) least)))
]
  where
    first : (a b : ℕ) → a ≤ b → min a b ≡ a
    first a b h = omega arith

    second : (a b : ℕ) → b ≤ a → min a b ≡ b
    second a b h = omega arith

    same : (a b : ℕ) → a ≤ b → b ≤ a → a ≡ b
    same a b h k = omega arith

-- reduced costs are at most three times the origin
reduced-most : (origin scale : ℕ) (form : NormalForm) (ys : List ℕ) (l : Literal) → scale * total_coefficient form.objective < 2 * origin → reduced_cost origin scale form ys l ≤ 3 * origin
reduced-most origin scale form ys l scaled =
    let weight = mul-le scale (weight_of l form.objective) scale (total_coefficient form.objective) (omega arith) (weight-most l form.objective) in
    most (scale * weight_of l form.objective) (scale * total_coefficient form.objective) (taken_off ys form.rows l) weight scaled
  where
    most : (w t k : ℕ) → w ≤ t → t < 2 * origin → (origin + w) - k ≤ 3 * origin
    most w t k h scaled = omega arith

-- so is what a variable adds
part_on-most : (origin scale : ℕ) (form : NormalForm) (ys : List ℕ) (trail : List Literal) (v : ℕ) → scale * total_coefficient form.objective < 2 * origin → part_on origin scale form ys trail v ≤ 3 * origin
part_on-most origin scale form ys trail v scaled = least (value_on trail v)
  where
    each : (b : Bool) → reduced_cost origin scale form ys (record { var = v; positive = b }) ≤ 3 * origin
    each b = reduced-most origin scale form ys (record { var = v; positive = b }) scaled

    least : (value : Option Bool) → least_cost (λ positive. reduced_cost origin scale form ys (record { var = v; positive = positive })) value ≤ 3 * origin
    least (Some b) = each b
    least None = lesser (reduced_cost origin scale form ys (record { var = v; positive = true })) (reduced_cost origin scale form ys (record { var = v; positive = false })) (each true)
      where
        lesser : (a b : ℕ) → a ≤ 3 * origin → min a b ≤ 3 * origin
        lesser a b h = omega arith

parts_on-most : (origin scale : ℕ) (form : NormalForm) (ys : List ℕ) (trail : List Literal) → scale * total_coefficient form.objective < 2 * origin → parts_on origin scale form ys trail ≤ form.vars * (3 * origin)
unfolding parts_on
parts_on-most origin scale form ys trail scaled = over-most (part_on origin scale form ys trail) form.vars (3 * origin) (λ v low high. part_on-most origin scale form ys trail v scaled)

-- the parts are those of the trail
parts-is : (origin scale : ℕ) (form : NormalForm) (ys costs : List ℕ) (trail : List Literal) (values : List (Option Bool)) (capacity : ℕ) → AreReducedCosts origin scale form ys costs → AreValues values trail capacity → length values ≡ form.vars → parts costs values ≡ parts_on origin scale form ys trail
unfolding parts parts_on
parts-is origin scale form ys costs trail values capacity costs_are values_are vars =
    over-same (λ v. part costs v (get_or values (v - 1) None)) (part_on origin scale form ys trail) (length values) (λ v low high. one v low high (value_on trail v) (values_are.values v low high))
    ∙ ap (over_variables (part_on origin scale form ys trail)) vars
  where
    cost : (v : ℕ) → 1 ≤ v → v ≤ length values → (b : Bool) → cost_at costs v b ≡ reduced_cost origin scale form ys (record { var = v; positive = b })
    cost v low high b = (let is : IsReducedCost origin scale form ys (record { var = v; positive = b }) (cost_at costs v b) = costs_are.each (record { var = v; positive = b }) low (omega arith) in omega arith)

    least : (f g : Bool → ℕ) (value : Option Bool) → ((b : Bool) → f b ≡ g b) → least_cost f value ≡ least_cost g value
    least f g (Some b) same = same b
    least f g None same = rw (same true, same false) refl

    one : (v : ℕ) → 1 ≤ v → v ≤ length values → (value : Option Bool) → get_or values (v - 1) None ≡ value → part costs v (get_or values (v - 1) None) ≡ least_cost (λ positive. reduced_cost origin scale form ys (record { var = v; positive = positive })) value
    one v low high value is = ap (part costs v) is ∙ least (λ positive. cost_at costs v positive) (λ positive. reduced_cost origin scale form ys (record { var = v; positive = positive })) value (cost v low high)

-- what a variable without a value adds is no more than the reduced cost of either literal
least-le : (cost : Bool → ℕ) (b : Bool) → least_cost cost None ≤ cost b
least-le cost true = omega arith
least-le cost false = omega arith

-- a literal without a value adds its penalty by joining the trail
parts_on-push : (origin scale : ℕ) (form : NormalForm) (ys : List ℕ) (trail : List Literal) (l : Literal) → 1 ≤ l.var → l.var ≤ form.vars → value_on trail l.var ≡ None → parts_on origin scale form ys (trail ++ l ∷ []) ≡ parts_on origin scale form ys trail + (reduced_cost origin scale form ys l - part_on origin scale form ys trail l.var)
unfolding parts_on
parts_on-push origin scale form ys trail l low high free =
    let pushed = trail ++ l ∷ [] in
    let cost : Bool → ℕ = λ positive. reduced_cost origin scale form ys (record { var = l.var; positive = positive }) in
    let changed = over-changed (part_on origin scale form ys trail) (part_on origin scale form ys pushed) form.vars l.var low high (λ u from upto other. kept u other) in
    let before : part_on origin scale form ys trail l.var ≡ least_cost cost None = ap (least_cost cost) free in
    let after : part_on origin scale form ys pushed l.var ≡ reduced_cost origin scale form ys l = ap (least_cost cost) (value_on-same trail l free) in
    add_up (over_variables (part_on origin scale form ys pushed) form.vars) (over_variables (part_on origin scale form ys trail) form.vars) (part_on origin scale form ys trail l.var) (part_on origin scale form ys pushed l.var) (reduced_cost origin scale form ys l) (least_cost cost None) changed before after (least-le cost l.positive)
  where
    kept : (u : ℕ) → u ≢ l.var → part_on origin scale form ys trail u ≡ part_on origin scale form ys (trail ++ l ∷ []) u
    kept u other = ap (least_cost (λ positive. reduced_cost origin scale form ys (record { var = u; positive = positive }))) (sym (value_on-other trail l u other))

    add_up : (g f p q r m : ℕ) → g + p ≡ f + q → p ≡ m → q ≡ r → m ≤ r → g ≡ f + (r - p)
    add_up g f p q r m changed before after least = omega arith

-- a multiplier within the share of the whole row is within that of the row as it is counted
pub share_counted : (form whole : NormalForm) (share r y : ℕ) → (row_at form.rows r).degree ≤ (row_at whole.rows r).degree → IsWithinShare whole share r y → IsWithinShare form share r y
share_counted form whole share r y less within = omega (arith, mul-le y (row_at form.rows r).degree y (row_at whole.rows r).degree (omega arith) less)

pub within_counted : {form whole : NormalForm} {ys : List ℕ} {lits : List Literal} {changes : List Change} {origin scale total share : ℕ} {costs : List ℕ} {values : List (Option Bool)} {degrees sum capacity : ℕ} → AreKept form whole ys lits changes origin scale total share costs values degrees sum capacity → (r : ℕ) → r < length form.rows → IsWithinShare form share r (get_or ys r 0)
within_counted {form = form} {whole = whole} {ys = ys} {share = share} kept r h = share_counted form whole share r (get_or ys r 0) (kept.no_greater r h) (kept.each_within r h)

-- the promise of the degrees is no more than the origin
pub promised_fits : {form whole : NormalForm} {ys : List ℕ} {lits : List Literal} {changes : List Change} {origin scale total share : ℕ} {costs : List ℕ} {values : List (Option Bool)} {degrees sum capacity : ℕ} → AreKept form whole ys lits changes origin scale total share costs values degrees sum capacity → promised ys form.rows ≤ origin
promised_fits {form = form} {whole = whole} {ys = ys} {share = share} kept = omega (arith, promised-most ys form.rows share kept.count (within_counted kept), kept.shared)

-- the sum that is kept is what the variables add under the trail
pub sum_on : {form whole : NormalForm} {ys : List ℕ} {lits : List Literal} {changes : List Change} {origin scale total share : ℕ} {costs : List ℕ} {values : List (Option Bool)} {degrees sum capacity : ℕ} → AreKept form whole ys lits changes origin scale total share costs values degrees sum capacity → sum ≡ parts_on origin scale form ys lits
sum_on {form = form} {ys = ys} {lits = lits} {origin = origin} {scale = scale} {costs = costs} {values = values} {capacity = capacity} kept = kept.sum_is ∙ parts-is origin scale form ys costs lits values capacity kept.costs_are kept.values_are kept.vars

-- all costs together, scaled, stay below twice the origin
scaled_total : {form whole : NormalForm} {ys : List ℕ} {lits : List Literal} {changes : List Change} {origin scale total share : ℕ} {costs : List ℕ} {values : List (Option Bool)} {degrees sum capacity : ℕ} → AreKept form whole ys lits changes origin scale total share costs values degrees sum capacity → scale * total_coefficient form.objective < 2 * origin
scaled_total {origin = origin} {scale = scale} kept = subst (λ (n : ℕ). scale * n < 2 * origin) kept.total_is kept.scaled

-- the sum stays below 2^127, also with one more reduced cost
pub sum-most : {form whole : NormalForm} {ys : List ℕ} {lits : List Literal} {changes : List Change} {origin scale total share : ℕ} {costs : List ℕ} {values : List (Option Bool)} {degrees sum capacity : ℕ} → AreKept form whole ys lits changes origin scale total share costs values degrees sum capacity → origin ≤ 2 ^ 105 → (more : ℕ) → more ≤ 3 * origin → sum + more < 2 ^ 127
sum-most {form = form} {ys = ys} {lits = lits} {origin = origin} {scale = scale} {sum = sum} kept small more one =
    let most = parts_on-most origin scale form ys lits (scaled_total kept) in
    let is = sum_on kept in
    (sum-fits form.vars origin sum more kept.few small (omega arith) one).1

-- the penalty of a literal is no more than a reduced cost
pub penalty-most : {form whole : NormalForm} {ys : List ℕ} {lits : List Literal} {changes : List Change} {origin scale total share : ℕ} {costs : List ℕ} {values : List (Option Bool)} {degrees sum capacity : ℕ} → AreKept form whole ys lits changes origin scale total share costs values degrees sum capacity → (l : Literal) → reduced_cost origin scale form ys l - part_on origin scale form ys lits l.var ≤ 3 * origin
penalty-most {form = form} {ys = ys} {lits = lits} {origin = origin} {scale = scale} kept l = less (reduced_cost origin scale form ys l) (part_on origin scale form ys lits l.var) (reduced-most origin scale form ys l (scaled_total kept))
  where
    less : (a b : ℕ) → a ≤ 3 * origin → a - b ≤ 3 * origin
    less a b h = omega arith

-- what stands at a literal's place is no more than a reduced cost, so beside it the sum is a number of 128 bits
pub cost-most : {form whole : NormalForm} {ys : List ℕ} {lits : List Literal} {changes : List Change} {origin scale total share : ℕ} {costs : List ℕ} {values : List (Option Bool)} {degrees sum capacity : ℕ} → AreKept form whole ys lits changes origin scale total share costs values degrees sum capacity → (l : Literal) → 1 ≤ l.var → l.var ≤ form.vars → get_or costs (literal_place l) 0 ≤ 3 * origin
cost-most {form = form} {ys = ys} {origin = origin} {scale = scale} {costs = costs} kept l low high =
    let is : IsReducedCost origin scale form ys l (get_or costs (literal_place l) 0) = kept.costs_are.each l low high in
    let weight = mul-le scale (weight_of l form.objective) scale (total_coefficient form.objective) (omega arith) (weight-most l form.objective) in
    omega (arith, scaled_total kept)

pub revalue-room : {form whole : NormalForm} {ys : List ℕ} {lits : List Literal} {changes : List Change} {origin scale total share : ℕ} {costs : List ℕ} {values : List (Option Bool)} {degrees sum capacity : ℕ} → AreKept form whole ys lits changes origin scale total share costs values degrees sum capacity → origin ≤ 2 ^ 105 → (v : ℕ) → 1 ≤ v → v ≤ form.vars → (b : Bool) → parts costs values + cost_at costs v b < 2 ^ 128
revalue-room {costs = costs} kept small v low high b =
    let cost : cost_at costs v b ≤ 3 * _ = cost-most kept (record { var = v; positive = b }) low high in
    omega (arith, sum-most kept small (cost_at costs v b) cost, kept.sum_is)

-- what the code divides is what the bound says
above-is : {form whole : NormalForm} {ys : List ℕ} {lits : List Literal} {changes : List Change} {origin scale total share : ℕ} {costs : List ℕ} {values : List (Option Bool)} {degrees sum capacity : ℕ} → AreKept form whole ys lits changes origin scale total share costs values degrees sum capacity → (n : ℕ) → div_ceil (min ((n + degrees) - form.vars * origin) (scale * total)) scale ≡ min (total_coefficient form.objective) (div_ceil ((promised ys form.rows + n) - form.vars * origin) scale)
above-is {form = form} {ys = ys} {origin = origin} {scale = scale} {total = total} {degrees = degrees} kept n =
    let above : (n + degrees) - form.vars * origin ≡ (promised ys form.rows + n) - form.vars * origin = omega (arith, kept.degrees_are) in
    ceil_min ((n + degrees) - form.vars * origin) scale total kept.scale_from_one
    ∙ (ap (λ (t : ℕ). min t (div_ceil ((n + degrees) - form.vars * origin) scale)) kept.total_is ∙ ap (λ (m : ℕ). min (total_coefficient form.objective) (div_ceil m scale)) above)

-- what is promised at most scales down to a bound
below_cost : (s : MultipliersState) (n : ℕ) (a : List Bool) → 1 ≤ s.scale → promised s.multipliers s.counted.rows + n ≤ s.form.vars * s.origin + s.scale * positive_value a s.form.objective → bound_from s n ≤ℤ normal_cost s.form a
below_cost s n a low most =
    let value = positive_value a s.form.objective in
    order s.form.base (total_coefficient s.form.objective) (div_ceil ((promised s.multipliers s.counted.rows + n) - s.form.vars * s.origin) s.scale) value
    (ceil_le ((promised s.multipliers s.counted.rows + n) - s.form.vars * s.origin) s.scale value low (less (promised s.multipliers s.counted.rows + n) (s.form.vars * s.origin) (s.scale * value) most))
  where
    less : (m z v : ℕ) → m ≤ z + v → m - z ≤ v
    less m z v h = omega arith

    order : (base : ℤ) (total up value : ℕ) → up ≤ value → (base +ℤ pos (min total up)) ≤ℤ (base +ℤ pos value)
    order base total up value h = omega (arith, ints)

-- the form is counted with these rows, which every completion of the trail meets
pub record IsCountedWith (s : MultipliersState) (rows : List PositiveRow) : Type 0 where
  pub counted_is : s.counted ≡ record s.form { rows = rows }
  pub normal : IsNormal (record s.form { rows = rows })
  pub count : length s.multipliers ≡ length rows
  pub fits : promised s.multipliers rows ≤ s.origin
  pub met : (a : List Bool) → IsCompletion s.form.rows s.trail a → MeetsRows a rows

pub counted_with : {form : NormalForm} {ss : List Saturation} {root : ℕ} {ys : List ℕ} {lits : List Literal} {changes : List Change} {origin scale total share : ℕ} {costs : List ℕ} {values : List (Option Bool)} {degrees sum capacity : ℕ} → AreKept (counted_form ss form) form ys lits changes origin scale total share costs values degrees sum capacity → AreSaturations form ss root lits → IsNormal form → (room : ℕ) → IsCountedWith (record { form = form; counted = counted_form ss form; origin = origin; scale = scale; share = share; multipliers = ys; trail = lits; root = root; changes = changes; room = room }) (counted_rows ss form.rows)
counted_with {form = form} {ss = ss} {root = root} {lits = lits} kept are normal room = record {
  counted_is = refl;
  normal = counted-normal form ss root lits normal are;
  count = kept.count;
  fits = promised_fits kept;
  met = λ a whole. are.met a (record { makes_true = All-take (λ (l : Literal). literal_value a l ≡ 1) root lits whole.makes_true; meets_rows = whole.meets_rows });
}

-- what is promised is at most the cost of what completes the trail
promised_counted : (s : MultipliersState) (rows : List PositiveRow) (trail : List Literal) (a : List Bool) → IsCountedWith s rows → IsCompletion rows trail a → promised s.multipliers s.counted.rows + parts_on s.origin s.scale s.counted s.multipliers trail ≤ s.form.vars * s.origin + s.scale * positive_value a s.form.objective
promised_counted s rows trail a are whole = subst (λ (f : NormalForm). promised s.multipliers f.rows + parts_on s.origin s.scale f s.multipliers trail ≤ s.form.vars * s.origin + s.scale * positive_value a s.form.objective) (sym are.counted_is) (sound s.origin s.scale (record s.form { rows = rows }) s.multipliers trail a are.normal are.count are.fits whole)

-- the bound holds for every completion
pub bound_below : (s : MultipliersState) (rows : List PositiveRow) → IsCountedWith s rows → 1 ≤ s.scale → IsBelowCosts s.form s.trail (dual_bound s)
bound_below s rows are low a whole = below_cost s (parts_on s.origin s.scale s.counted s.multipliers s.trail) a low (promised_counted s rows s.trail a are (record { makes_true = whole.makes_true; meets_rows = are.met a whole }))

-- where more than all costs together is promised there is no completion
pub none_below : (s : MultipliersState) (rows : List PositiveRow) → IsCountedWith s rows → s.scale * total_coefficient s.form.objective < promised_above s → HasNoCompletion s.form.rows s.trail
none_below s rows are over a whole =
    let value = positive_value a s.form.objective in
    let total = total_coefficient s.form.objective in
    let most : value ≤ total = omega (arith, positive_value-opposite a s.form.objective) in
    beyond (promised s.multipliers s.counted.rows + parts_on s.origin s.scale s.counted s.multipliers s.trail) (s.form.vars * s.origin) (s.scale * value) (s.scale * total)
    (promised_counted s rows s.trail a are (record { makes_true = whole.makes_true; meets_rows = are.met a whole })) (mul-le s.scale value s.scale total (omega arith) most) over
  where
    beyond : (sum floor value total : ℕ) → sum ≤ floor + value → value ≤ total → total < sum - floor → ⊥
    beyond sum floor value total h low over = omega arith

-- with a literal more, for those that make it true
pub bound_with_below : (s : MultipliersState) (l : Literal) (rows : List PositiveRow) → IsCountedWith s rows → 1 ≤ s.scale → 1 ≤ l.var → l.var ≤ s.form.vars → value_on s.trail l.var ≡ None → IsBelowCostsWith s.form s.trail l (bound_from s (parts_on s.origin s.scale s.counted s.multipliers s.trail + penalty s l))
bound_with_below s l rows are low from upto free a whole is =
    let more : IsCompletion rows (s.trail ++ l ∷ []) a = record { makes_true = All-push (λ (m : Literal). literal_value a m ≡ 1) s.trail l whole.makes_true is; meets_rows = are.met a whole } in
    let holds = promised_counted s rows (s.trail ++ l ∷ []) a are more in
    let high : l.var ≤ s.counted.vars = omega (arith, upto, ap (λ (f : NormalForm). f.vars) are.counted_is) in
    let pushed = parts_on-push s.origin s.scale s.counted s.multipliers s.trail l from high free in
    below_cost s (parts_on s.origin s.scale s.counted s.multipliers s.trail + penalty s l) a low (subst (λ (n : ℕ). promised s.multipliers s.counted.rows + n ≤ s.form.vars * s.origin + s.scale * positive_value a s.form.objective) pushed holds)

-- the sum of the base and what is promised above it, as the code makes it
base_and : (base : ℤ) (above total : ℕ) → unsigned_abs base ≤ SUM_BOUND → (base +ℤ pos total) ≤ℤ pos SUM_BOUND → above ≤ total → total ≤ SUM_BOUND → FitsSigned number_width (to_z number_width (of_z number_width base) +ℤ to_z number_width above) × (to_z number_width (of_z number_width (to_z number_width (of_z number_width base) +ℤ to_z number_width above)) ≡ base +ℤ pos above)
base_and base above total low high most small =
    let base_fits : FitsSigned number_width base = fits_signed_from_abs number_width base (omega arith) in
    let inner : to_z number_width (of_z number_width base) +ℤ to_z number_width above ≡ base +ℤ pos above = rw (to_z-of_z number_width base base_fits, to_z_pos number_width above (omega arith)) refl in
    let fits = in_range base above total low high most in
    (subst (FitsSigned number_width) (sym inner) fits, ap (λ (z : ℤ). to_z number_width (of_z number_width z)) inner ∙ to_z-of_z number_width (base +ℤ pos above) fits)
  where
    in_range : (base : ℤ) (above total : ℕ) → unsigned_abs base ≤ SUM_BOUND → (base +ℤ pos total) ≤ℤ pos SUM_BOUND → above ≤ total → FitsSigned number_width (base +ℤ pos above)
    in_range base above total low high most = omega (arith, ints)

-- the bound, as the code makes it
pub bound_is : {form whole : NormalForm} {ys : List ℕ} {lits : List Literal} {changes : List Change} {origin scale total share : ℕ} {costs : List ℕ} {values : List (Option Bool)} {degrees sum capacity : ℕ} → AreKept form whole ys lits changes origin scale total share costs values degrees sum capacity → IsNormal form → (base : ℤ) → base ≡ form.base → (n up : ℕ) → up ≡ div_ceil (min ((n + degrees) - form.vars * origin) (scale * total)) scale → FitsSigned number_width (to_z number_width (of_z number_width base) +ℤ to_z number_width up) × (to_z number_width (of_z number_width (to_z number_width (of_z number_width base) +ℤ to_z number_width up)) ≡ form.base +ℤ pos (min (total_coefficient form.objective) (div_ceil ((promised ys form.rows + n) - form.vars * origin) scale)))
bound_is {form = form} {ys = ys} {origin = origin} {scale = scale} kept normal base same n up is =
    let limits = normal.limits in
    let whole = total_coefficient form.objective in
    let above = div_ceil ((promised ys form.rows + n) - form.vars * origin) scale in
    let up_is : up ≡ min whole above = is ∙ above-is kept n in
    let low : unsigned_abs base ≤ SUM_BOUND = subst (λ (z : ℤ). unsigned_abs z ≤ SUM_BOUND) (sym same) limits.lowest in
    let high : (base +ℤ pos whole) ≤ℤ pos SUM_BOUND = subst (λ (z : ℤ). (z +ℤ pos whole) ≤ℤ pos SUM_BOUND) (sym same) limits.highest in
    let sum = base_and base up whole low high (no_more up whole above up_is) limits.coefficients in
    (sum.0, sum.1 ∙ (ap (λ (z : ℤ). z +ℤ pos up) same ∙ ap (λ (k : ℕ). form.base +ℤ pos k) up_is))
  where
    no_more : (up whole above : ℕ) → up ≡ min whole above → up ≤ whole
    no_more up whole above is = omega arith

-- another trail with its values and its sum
pub kept_on : {form whole : NormalForm} {ys : List ℕ} {lits : List Literal} {changes : List Change} {origin scale total share : ℕ} {costs : List ℕ} {values : List (Option Bool)} {degrees sum capacity : ℕ} → AreKept form whole ys lits changes origin scale total share costs values degrees sum capacity → (new_lits : List Literal) (new_values : List (Option Bool)) (new_sum new_capacity : ℕ) → length new_values ≡ length values → AreValues new_values new_lits new_capacity → new_sum ≡ parts costs new_values → AreKept form whole ys new_lits changes origin scale total share costs new_values degrees new_sum new_capacity
kept_on kept new_lits new_values new_sum new_capacity same are is = record {
  scale_from_one = kept.scale_from_one;
  total_is = kept.total_is;
  scaled = kept.scaled;
  shared = kept.shared;
  few = kept.few;
  count = kept.count;
  one_each = kept.one_each;
  no_greater = kept.no_greater;
  each_within = kept.each_within;
  degrees_are = kept.degrees_are;
  costs_are = kept.costs_are;
  vars = same ∙ kept.vars;
  values_are = are;
  sum_is = is;
  changes_within = kept.changes_within;
}

-- a state whose trail is to be cut
pub record IsCutTo (before now : MultipliersState) (n : ℕ) : Type 0 where
  pub same : now ≡ record before { trail = now.trail }
  pub front : take n now.trail ≡ take n before.trail
