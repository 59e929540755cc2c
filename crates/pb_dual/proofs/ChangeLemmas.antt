-- What one change of a reduced cost, of a value or of a multiplier does to the sums.
use Rattle.std.proofs.Common.{◌≡◌, ◌≢◌, ℕ, zero, suc, ◌+◌, ◌-◌, ◌*◌, ◌^◌, ◌<◌, ◌≤◌, ◌⊎◌, List, [], ◌∷◌, length, get_or, set, refl, sym, ◌∙◌, ap, arith, Bool, true, false, not, cond, Option, Some, None, min, inl, inr, length-set, get_or-set_same, get_or-set_other, take, sum_by}
use Rattle.std.proofs.lemmas.Bool.{cases_Bool, cases_eq, cases_lt, eq-eqb, eqb-true}
use Rattle.std.proofs.lemmas.List.Sums.{sum_by_more, sum_by-take-le}
use Rattle.std.proofs.lemmas.Nat.{mul-le}
use Rattle.std.proofs.lemmas.Grind.{get_or_default_zero}
use Rattle.pb_inst.specs.declared.limits.TheConstants.{MAX_VARS}
use Rattle.pb_inst.specs.Literal.{Literal}
use Rattle.pb_normal.specs.NormalForm.{PositiveRow}
use Rattle.pb_normal.specs.declared.terms.PositiveTerm.{PositiveTerm}
use Rattle.pb_normal.specs.Literals.{same_literal, same_sign, weight_of}
use Rattle.pb_normal.proofs.LiteralLemmas.{same_literal-itself, same_literal-is}
use Rattle.pb_rows.specs.Constraints.{row_at}
use Rattle.pb_rows.specs.Index.{literal_place}
use Rattle.pb_rows.proofs.EntryLemmas.{same_place-same_literal}
use Rattle.pb_rows.proofs.CostLemmas.{weight_of-next, place_below}
use Rattle.pb_dual.proofs.SoundLemmas.{over-same}
use Rattle.pb_dual.specs.ReducedCosts.{weighted, promised, cost_at, least_cost, over_variables, part, parts}

-- one number of a sum is replaced
pub over-changed : (f g : ℕ → ℕ) (n v : ℕ) → 1 ≤ v → v ≤ n → ((u : ℕ) → 1 ≤ u → u ≤ n → u ≢ v → f u ≡ g u) → over_variables g n + f v ≡ over_variables f n + g v
over-changed f g zero v low high same = absurd (omega arith)
over-changed f g (suc n) v low high same = elim (cases_eq v (suc n)) [
  | inl e ↦ (let before = over-same f g n (λ u from upto. same u from (omega arith) (λ is. omega arith)) in let at_f = ap f e in let at_g = ap g e in omega arith)
  | inr other ↦ (let last = same (suc n) (omega arith) (omega arith) (λ is. other (sym is)) in let rest = over-changed f g n v low (omega arith) (λ u from upto apart. same u from (omega arith) apart) in omega arith)
]

-- a number is no more than the sum
pub over-has : (f : ℕ → ℕ) (n v : ℕ) → 1 ≤ v → v ≤ n → f v ≤ over_variables f n
over-has f zero v low high = absurd (omega arith)
over-has f (suc n) v low high = elim (cases_lt n v) [
  | inl h ↦ (let last : v ≡ suc n = omega arith in let at = ap f last in omega arith)
  | inr h ↦ omega (arith, over-has f n v low h)
]

-- a sum of numbers that are at most `most`
pub over-most : (f : ℕ → ℕ) (n most : ℕ) → ((v : ℕ) → 1 ≤ v → v ≤ n → f v ≤ most) → over_variables f n ≤ n * most
over-most f zero most each = omega arith
over-most f (suc n) most each = omega (arith, over-most f n most (λ v low high. each v low (omega arith)), each (suc n) (omega arith) (omega arith))

-- places of literals of different variables differ
pub places_apart : (v u : ℕ) (b c : Bool) → 1 ≤ v → 1 ≤ u → u ≢ v → literal_place (record { var = u; positive = c }) ≢ literal_place (record { var = v; positive = b })
places_apart v u true true low from other e = other (omega arith)
places_apart v u true false low from other e = other (omega arith)
places_apart v u false true low from other e = other (omega arith)
places_apart v u false false low from other e = other (omega arith)

-- a literal's reduced cost is replaced
pub parts-repriced : (costs : List ℕ) (values : List (Option Bool)) (l : Literal) (n : ℕ) → 1 ≤ l.var → l.var ≤ length values → parts (set costs (literal_place l) n) values + part costs l.var (get_or values (l.var - 1) None) ≡ parts costs values + part (set costs (literal_place l) n) l.var (get_or values (l.var - 1) None)
unfolding parts
parts-repriced costs values l n low high =
    over-changed (λ v. part costs v (get_or values (v - 1) None)) (λ v. part (set costs (literal_place l) n) v (get_or values (v - 1) None)) (length values) l.var low high
    (λ u from upto other. same_part u (get_or values (u - 1) None) (kept u true from other) (kept u false from other))
  where
    kept : (u : ℕ) (b : Bool) → 1 ≤ u → u ≢ l.var → cost_at costs u b ≡ cost_at (set costs (literal_place l) n) u b
    kept u b from other = (let apart : literal_place (record { var = u; positive = b }) ≢ literal_place l = places_apart l.var u l.positive b low from other in sym (let same : get_or (set costs (literal_place l) n) (literal_place (record { var = u; positive = b })) 0 ≡ get_or costs (literal_place (record { var = u; positive = b })) 0 = rw get_or-set_other refl in same))

    same_part : (u : ℕ) (value : Option Bool) → cost_at costs u true ≡ cost_at (set costs (literal_place l) n) u true → cost_at costs u false ≡ cost_at (set costs (literal_place l) n) u false → part costs u value ≡ part (set costs (literal_place l) n) u value
    same_part u (Some true) plain negated = plain
    same_part u (Some false) plain negated = negated
    same_part u None plain negated = rw (plain, negated) refl

-- a variable's value is replaced
pub parts-valued : (costs : List ℕ) (values : List (Option Bool)) (v : ℕ) (value : Option Bool) → 1 ≤ v → v ≤ length values → parts costs (set values (v - 1) value) + part costs v (get_or values (v - 1) None) ≡ parts costs values + part costs v (get_or (set values (v - 1) value) (v - 1) None)
unfolding parts
parts-valued costs values v value low high =
    let same_length = length-set values (v - 1) value in
    let lengths = ap (over_variables (λ u. part costs u (get_or (set values (v - 1) value) (u - 1) None))) same_length in
    let changed = over-changed (λ u. part costs u (get_or values (u - 1) None)) (λ u. part costs u (get_or (set values (v - 1) value) (u - 1) None)) (length values) v low high (λ u from upto other. kept u from other) in
    omega arith
  where
    kept : (u : ℕ) → 1 ≤ u → u ≢ v → part costs u (get_or values (u - 1) None) ≡ part costs u (get_or (set values (v - 1) value) (u - 1) None)
    kept u from other = (let apart : u - 1 ≢ v - 1 = λ e. other (omega arith) in let same : get_or (set values (v - 1) value) (u - 1) None ≡ get_or values (u - 1) None = rw get_or-set_other refl in ap (part costs u) (sym same))

-- what a variable adds is no more than a limit of its reduced costs
pub part-most : (costs : List ℕ) (v most : ℕ) → ((b : Bool) → cost_at costs v b ≤ most) → (value : Option Bool) → part costs v value ≤ most
part-most costs v most each (Some b) = each b
part-most costs v most each None = lesser (cost_at costs v true) (cost_at costs v false) (each true)
  where
    lesser : (a b : ℕ) → a ≤ most → min a b ≤ most
    lesser a b h = omega arith

-- no part is more than all of them, and none is over a limit of the reduced costs
pub part-within : (costs : List ℕ) (values : List (Option Bool)) (v : ℕ) → 1 ≤ v → v ≤ length values → part costs v (get_or values (v - 1) None) ≤ parts costs values
unfolding parts
part-within costs values v low high = over-has (λ u. part costs u (get_or values (u - 1) None)) (length values) v low high

pub parts-most : (costs : List ℕ) (values : List (Option Bool)) (most : ℕ) → ((l : Literal) → 1 ≤ l.var → l.var ≤ length values → get_or costs (literal_place l) 0 ≤ most) → parts costs values ≤ length values * most
unfolding parts
parts-most costs values most each = over-most (λ u. part costs u (get_or values (u - 1) None)) (length values) most (λ v low high. part-most costs v most (λ b. each (record { var = v; positive = b }) low high) (get_or values (v - 1) None))

-- what a variable adds at least, by the reduced costs of a literal of it and of the negated one
pub part-of-literal : (costs : List ℕ) (l m : Literal) (value : Option Bool) (x y : ℕ) → m.var ≡ l.var → m.positive ≡ not l.positive → x ≡ get_or costs (literal_place l) 0 → y ≡ get_or costs (literal_place m) 0 → least_cost (λ positive. cond (same_sign positive l.positive) x y) value ≡ part costs l.var value
part-of-literal costs l m value x y same other own others = of_sign l.positive value own (others ∙ (ap (λ (v : ℕ). cost_at costs v m.positive) same ∙ ap (λ (b : Bool). cost_at costs l.var b) other))
  where
    of_sign : (b : Bool) (value : Option Bool) → x ≡ cost_at costs l.var b → y ≡ cost_at costs l.var (not b) → least_cost (λ positive. cond (same_sign positive b) x y) value ≡ part costs l.var value
    of_sign true (Some true) own others = own
    of_sign true (Some false) own others = others
    of_sign true None own others = rw (own, others) refl
    of_sign false (Some true) own others = others
    of_sign false (Some false) own others = own
    of_sign false None own others = rw (own, others) refl

-- what a variable adds at least once the literal's reduced cost is replaced by `n`
pub part-of-changed : (costs : List ℕ) (l m : Literal) (value : Option Bool) (n y : ℕ) → m.var ≡ l.var → m.positive ≡ not l.positive → literal_place l < length costs → y ≡ get_or costs (literal_place m) 0 → least_cost (λ positive. cond (same_sign positive l.positive) n y) value ≡ part (set costs (literal_place l) n) l.var value
part-of-changed costs l m value n y same other short others =
    let apart : literal_place m ≢ literal_place l = λ e. places_of_signs l.var l.positive (sym (ap (λ (v : ℕ). literal_place (record { var = v; positive = m.positive })) same ∙ ap (λ (b : Bool). literal_place (record { var = l.var; positive = b })) other) ∙ e) in
    let here : n ≡ get_or (set costs (literal_place l) n) (literal_place l) 0 = rw get_or-set_same refl in
    let beside : get_or (set costs (literal_place l) n) (literal_place m) 0 ≡ get_or costs (literal_place m) 0 = rw get_or-set_other refl in
    part-of-literal (set costs (literal_place l) n) l m value n y same other here (others ∙ sym beside)
  where
    places_of_signs : (v : ℕ) (b : Bool) → literal_place (record { var = v; positive = not b }) ≢ literal_place (record { var = v; positive = b })
    places_of_signs v true e = omega arith
    places_of_signs v false e = omega arith

-- one row's multiplier is replaced
pub weighted-set : (worth : PositiveRow → ℕ) (ys : List ℕ) (rows : List PositiveRow) (r y : ℕ) → length ys ≡ length rows → r < length rows → weighted worth (set ys r y) rows + get_or ys r 0 * worth (row_at rows r) ≡ weighted worth ys rows + y * worth (row_at rows r)
weighted-set worth [] [] r y same h = absurd (omega arith)
weighted-set worth [] (row ∷ rows) r y same h = absurd (omega arith)
weighted-set worth (z ∷ ys) [] r y same h = absurd (omega arith)
weighted-set worth (z ∷ ys) (row ∷ rows) zero y same h = omega arith
weighted-set worth (z ∷ ys) (row ∷ rows) (suc r) y same h = omega (arith, weighted-set worth ys rows r y (omega arith) (omega arith))

-- where each row promises no more than its share, all of them promise no more than all shares
pub promised-most : (ys : List ℕ) (rows : List PositiveRow) (share : ℕ) → length ys ≡ length rows → ((r : ℕ) → r < length rows → get_or ys r 0 * (row_at rows r).degree ≤ share) → promised ys rows ≤ share * length rows
promised-most [] rows share same each = omega arith
promised-most (y ∷ ys) [] share same each = absurd (omega arith)
promised-most (y ∷ ys) (row ∷ rows) share same each =
    let head : y * row.degree ≤ share = each 0 (omega arith) in
    omega (arith, promised-most ys rows share (omega arith) (λ r h. each (suc r) (omega arith)))

pub product_more : (r w whole from to : ℕ) → w ≤ whole → to * whole ≤ r + from * whole → to * w ≤ r + from * w
product_more r w whole from to within enough = by_order (cases_lt from to)
  where
    by_order : (from < to) ⊎ (to ≤ from) → to * w ≤ r + from * w
    by_order (inr h) = omega (arith, mul-le to w from w h (omega arith))
    by_order (inl h) =
        let more : to ≡ from + (to - from) = omega arith in
        let whole_is : to * whole ≡ from * whole + (to - from) * whole = ap (λ n. n * whole) more ∙ (let spread : (from + (to - from)) * whole ≡ from * whole + (to - from) * whole = omega arith in spread) in
        let part_is : to * w ≡ from * w + (to - from) * w = ap (λ n. n * w) more ∙ (let spread : (from + (to - from)) * w ≡ from * w + (to - from) * w = omega arith in spread) in
        omega (arith, mul-le (to - from) w (to - from) whole (omega arith) within)

-- what stands at a literal's place once the number at another's is changed
pub place-set : (costs : List ℕ) (l m : Literal) (n : ℕ) → 1 ≤ l.var → 1 ≤ m.var → literal_place l < length costs → get_or (set costs (literal_place l) n) (literal_place m) 0 ≡ cond (same_literal m l) n (get_or costs (literal_place m) 0)
place-set costs l m n low from short =
    let places = same_place-same_literal m l from low in
    elim (cases_Bool (same_literal m l)) [
      | inl same ↦
          (let place_is : literal_place l ≡ literal_place m = eqb-true (literal_place l) (literal_place m) (places ∙ same) in
          let here : get_or (set costs (literal_place l) n) (literal_place l) 0 ≡ n = rw get_or-set_same refl in
          let moved : get_or (set costs (literal_place l) n) (literal_place m) 0 ≡ n = rw (← place_is) here in
          moved ∙ (let one : n ≡ cond (same_literal m l) n (get_or costs (literal_place m) 0) = rw same refl in one))
      | inr other ↦
          (let apart : literal_place m ≢ literal_place l = λ e. (let on = eq-eqb (literal_place l) (literal_place m) (sym e) in let none : ⊥ = cc in none) in
          let kept : get_or (set costs (literal_place l) n) (literal_place m) 0 ≡ get_or costs (literal_place m) 0 = rw get_or-set_other refl in
          kept ∙ (let one : get_or costs (literal_place m) 0 ≡ cond (same_literal m l) n (get_or costs (literal_place m) 0) = rw other refl in one))
    ]

-- once the cost of one of its literals is replaced, what a variable adds is still within the limit of all costs
pub repriced-most : (costs : List ℕ) (vars : ℕ) (l : Literal) (n most : ℕ) → 1 ≤ l.var → l.var ≤ vars → length costs ≡ 2 * vars → n ≤ most → ((m : Literal) → 1 ≤ m.var → m.var ≤ vars → get_or costs (literal_place m) 0 ≤ most) → (value : Option Bool) → part (set costs (literal_place l) n) l.var value ≤ most
repriced-most costs vars l n most low high count new each value = part-most (set costs (literal_place l) n) l.var most one value
  where
    either : (b : Bool) (x y : ℕ) → x ≤ most → y ≤ most → cond b x y ≤ most
    either true x y first second = first
    either false x y first second = second

    one : (b : Bool) → cost_at (set costs (literal_place l) n) l.var b ≤ most
    one b =
        let m : Literal = record { var = l.var; positive = b } in
        let placed = place-set costs l m n low low (omega (arith, count, place_below l vars low high)) in
        omega (arith, placed, either (same_literal m l) n (get_or costs (literal_place m) 0) new (each m low high))

-- the weight of a literal in the terms up to one of its own, and in all of them
pub weight-own : (terms : List PositiveTerm) (i : ℕ) (t : PositiveTerm) → i < length terms → t ≡ get_or terms i t → (weight_of t.lit (take (i + 1) terms) ≡ weight_of t.lit (take i terms) + t.coef) × (weight_of t.lit (take (i + 1) terms) ≤ weight_of t.lit terms)
unfolding weight_of
weight-own terms i t h read =
    let f : PositiveTerm → ℕ = λ u. cond (same_literal t.lit u.lit) u.coef 0 in
    let more = sum_by_more f terms i t h in
    let own : f (get_or terms i t) ≡ t.coef = ap f (sym read) ∙ (let itself : f t ≡ t.coef = rw (same_literal-itself t.lit) refl in itself) in
    (more ∙ ap (λ (n : ℕ). sum_by f (take i terms) + n) own, sum_by-take-le f terms (i + 1))

-- so the row can be taken off the cost of its next term
pub can-reprice : (costs before : ℕ) (terms : List PositiveTerm) (i : ℕ) (t : PositiveTerm) (from to most : ℕ) → i < length terms → t ≡ get_or terms i t → costs + to * weight_of t.lit (take i terms) ≡ before + from * weight_of t.lit (take i terms) → to * weight_of t.lit terms ≤ before + from * weight_of t.lit terms → before + from * weight_of t.lit terms ≤ most → (to * t.coef ≤ costs + from * t.coef) × (costs + from * t.coef ≤ most)
can-reprice costs before terms i t from to most h read is enough fits =
    let own = weight-own terms i t h read in
    let w = weight_of t.lit (take i terms) in
    let more = product_more before (w + t.coef) (weight_of t.lit terms) from to (omega arith) enough in
    let taken : to * (w + t.coef) ≡ to * w + to * t.coef = omega arith in
    let given : from * (w + t.coef) ≡ from * w + from * t.coef = omega arith in
    let whole = mul-le from (w + t.coef) from (weight_of t.lit terms) (omega arith) (omega arith) in
    (omega arith, omega arith)

-- a cost after some of the terms is within the limit too
pub now-most : (cost before : ℕ) (terms : List PositiveTerm) (i : ℕ) (l : Literal) (from to most : ℕ) → cost + to * weight_of l (take i terms) ≡ before + from * weight_of l (take i terms) → before + from * weight_of l terms ≤ most → cost ≤ most
unfolding weight_of
now-most cost before terms i l from to most is fits =
    let f : PositiveTerm → ℕ = λ u. cond (same_literal l u.lit) u.coef 0 in
    let some = mul-le from (sum_by f (take i terms)) from (sum_by f terms) (omega arith) (sum_by-take-le f terms i) in
    omega arith

-- the sum of all parts, and of one more, is a number of 128 bits
pub sum-fits : (n origin sum more : ℕ) → n ≤ MAX_VARS → origin ≤ 2 ^ 105 → sum ≤ n * (3 * origin) → more ≤ 3 * origin → (sum ≤ 3 * 2 ^ 125) × (sum + more < 2 ^ 127)
sum-fits n origin sum more few small most one =
    let all = mul-le n (3 * origin) MAX_VARS (3 * 2 ^ 105) few (omega arith) in
    (omega arith, omega arith)

-- what the reduced cost of one literal does, where it was read at its place, that of the negated one at the other place, and the value of the variable
pub record IsRepriced (old : List ℕ) (values : List (Option Bool)) (l : Literal) (p x n before after : ℕ) : Type 0 where
  pub read : x ≡ get_or old (literal_place l) 0
  pub within : before ≤ parts old values
  pub changed : parts (set old p n) values + before ≡ parts old values + after
  pub new : after ≡ part (set old (literal_place l) n) l.var (get_or values (l.var - 1) None)

pub repriced-one : (old : List ℕ) (values : List (Option Bool)) (l m : Literal) (v p q x y n : ℕ) → 1 ≤ l.var → l.var ≤ length values → length old ≡ 2 * length values → m.var ≡ l.var → m.positive ≡ not l.positive → v ≡ l.var → p ≡ literal_place l → q ≡ literal_place m → x ≡ get_or old p x → y ≡ get_or old q y → IsRepriced old values l p x n (least_cost (λ positive. cond (same_sign positive l.positive) x y) (get_or values (v - 1) None)) (least_cost (λ positive. cond (same_sign positive l.positive) n y) (get_or values (v - 1) None))
repriced-one old values l m v p q x y n low high count same other here_var here there own others =
    let short : literal_place l < length old = omega (arith, count, place_below l (length values) low high) in
    let beside : literal_place m < length old = omega (arith, count, same, place_below m (length values) (omega (arith, same)) (omega (arith, same))) in
    let mine : x ≡ get_or old (literal_place l) 0 = own ∙ (get_or_default_zero old p x (omega (arith, here, short)) ∙ ap (λ (k : ℕ). get_or old k 0) here) in
    let its : y ≡ get_or old (literal_place m) 0 = others ∙ (get_or_default_zero old q y (omega (arith, there, beside)) ∙ ap (λ (k : ℕ). get_or old k 0) there) in
    let valued = ap (λ (k : ℕ). get_or values (k - 1) None) here_var in
    let was = part-of-literal old l m (get_or values (v - 1) None) x y same other mine its ∙ ap (part old l.var) valued in
    let is = part-of-changed old l m (get_or values (v - 1) None) n y same other short its ∙ ap (part (set old (literal_place l) n) l.var) valued in
    let placed = ap (λ (k : ℕ). parts (set old k n) values) here in
    record {
      read = mine;
      within = omega (arith, was, part-within old values l.var low high);
      changed = omega (arith, was, is, placed, parts-repriced old values l n low high);
      new = is;
    }

-- one term more is repriced
pub repriced-next : (first costs : List ℕ) (terms : List PositiveTerm) (i : ℕ) (t : PositiveTerm) (from to : ℕ) (m : Literal) → i < length terms → t ≡ get_or terms i t → 1 ≤ t.lit.var → 1 ≤ m.var → literal_place t.lit < length costs → to * t.coef ≤ get_or costs (literal_place t.lit) 0 + from * t.coef → get_or costs (literal_place m) 0 + to * weight_of m (take i terms) ≡ get_or first (literal_place m) 0 + from * weight_of m (take i terms) → get_or (set costs (literal_place t.lit) (get_or costs (literal_place t.lit) 0 + from * t.coef - to * t.coef)) (literal_place m) 0 + to * weight_of m (take (i + 1) terms) ≡ get_or first (literal_place m) 0 + from * weight_of m (take (i + 1) terms)
repriced-next first costs terms i t from to m h read low above short enough is =
    let n = get_or costs (literal_place t.lit) 0 + from * t.coef - to * t.coef in
    let placed = place-set costs t.lit m n low above short in
    let next : weight_of m (take (i + 1) terms) ≡ weight_of m (take i terms) + cond (same_literal m t.lit) t.coef 0 = weight_of-next m terms i t h ∙ ap (λ (u : PositiveTerm). weight_of m (take i terms) + cond (same_literal m u.lit) u.coef 0) (sym read) in
    let w = weight_of m (take i terms) in
    elim (cases_Bool (same_literal m t.lit)) [
      | inl same ↦
          (let at : literal_place m ≡ literal_place t.lit = ap literal_place (same_literal-is m t.lit same) in
          let here : get_or costs (literal_place m) 0 ≡ get_or costs (literal_place t.lit) 0 = ap (λ (p : ℕ). get_or costs p 0) at in
          let value : get_or (set costs (literal_place t.lit) n) (literal_place m) 0 ≡ n = placed ∙ rw same refl in
          let weight : weight_of m (take (i + 1) terms) ≡ w + t.coef = next ∙ rw same refl in
          let taken : to * weight_of m (take (i + 1) terms) ≡ to * w + to * t.coef = ap (λ (k : ℕ). to * k) weight ∙ (let spread : to * (w + t.coef) ≡ to * w + to * t.coef = omega arith in spread) in
          let given : from * weight_of m (take (i + 1) terms) ≡ from * w + from * t.coef = ap (λ (k : ℕ). from * k) weight ∙ (let spread : from * (w + t.coef) ≡ from * w + from * t.coef = omega arith in spread) in
          omega arith)
      | inr other ↦
          (let value : get_or (set costs (literal_place t.lit) n) (literal_place m) 0 ≡ get_or costs (literal_place m) 0 = placed ∙ rw other refl in
          let weight : weight_of m (take (i + 1) terms) ≡ w = next ∙ (let none : w + cond (same_literal m t.lit) t.coef 0 ≡ w = rw other (omega arith) in none) in
          let taken = ap (λ (k : ℕ). to * k) weight in
          let given = ap (λ (k : ℕ). from * k) weight in
          omega arith)
    ]
