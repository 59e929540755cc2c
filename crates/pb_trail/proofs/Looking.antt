-- What holds while the terms of a row are looked at.
use Rattle.std.proofs.Common.{◌≡◌, ℕ, ◌+◌, ◌<◌, ◌≤◌, List, [], ◌∷◌, ◌++◌, length, get_or, refl, sym, ◌∙◌, ap, subst, arith, Option, Some, None, Bool, true, false, not, is_some, All, inl, inr, ◌⊎◌}
use Rattle.std.proofs.lemmas.Bool.{cases_lt, cases_eq}
use Rattle.std.proofs.lemmas.List.{get_or_read, get_or_append_left, get_or_default}
use Rattle.pb_inst.specs.Literal.{Literal}
use Rattle.pb_normal.specs.declared.terms.PositiveTerm.{PositiveTerm}
use Rattle.pb_normal.specs.NormalForm.{PositiveRow}
use Rattle.pb_rows.specs.Constraints.{Constraints, row_at}
use Rattle.pb_normal.specs.Literals.{negation, weight_of}
use Rattle.pb_trail.specs.Trail.{value_on, reachable}
use Rattle.pb_trail.specs.Tracked.{TrailState, HasNothingOver, IsUpToDate}
use Rattle.pb_trail.specs.Completion.{IsForced}
use Rattle.pb_trail.specs.Propagation.{AddsForced, nothing, one_more, IsSettledFrom}
use Rattle.pb_trail.proofs.TrailLemmas.{value_on-before, value_on-same}
use Rattle.pb_trail.proofs.CompletionLemmas.{AddsForced-trans, settled_from-AddsForced, length-AddsForced, forced_by_row, settled_by, reachable-AddsForced, reachable-untouched}

-- forced literals joined, and of the terms before i none without a value is above the slack
pub record IsLookedAt (c : Constraints) (before now : TrailState) (row slack i : ℕ) : Type 0 where
  pub up_to_date : IsUpToDate c now
  pub forced : AddsForced c.rows before.lits now.lits
  pub passed : (j : ℕ) (d : PositiveTerm) → j < i → value_on now.lits (get_or (row_at c.rows row).terms j d).lit.var ≡ None → (get_or (row_at c.rows row).terms j d).coef ≤ slack

pub looked_at_none : (c : Constraints) (before : TrailState) (row slack : ℕ) → IsUpToDate c before → IsLookedAt c before before row slack 0
looked_at_none c before row slack is = record { up_to_date = is; forced = nothing; passed = λ j d h. absurd (omega arith) }

-- a term that stays
pub looked_at_stays : (c : Constraints) (before now : TrailState) (row slack i : ℕ) (t : PositiveTerm) → IsLookedAt c before now row slack i → t ≡ get_or (row_at c.rows row).terms i t → i < length (row_at c.rows row).terms → (value_on now.lits t.lit.var ≡ None → t.coef ≤ slack) → IsLookedAt c before now row slack (i + 1)
looked_at_stays c before now row slack i t is read h fine = record {
  up_to_date = is.up_to_date;
  forced = is.forced;
  passed = λ j d low unset. elim (cases_lt j i) [
    | inl early ↦ is.passed j d early unset
    | inr late ↦
        let here : j ≡ i = omega arith in
        let same : get_or (row_at c.rows row).terms j d ≡ t = rw here (sym (get_or_read (row_at c.rows row).terms i t h read d)) in
        let P : PositiveTerm → Type 0 = λ u. value_on now.lits u.lit.var ≡ None → u.coef ≤ slack in
        subst P (sym same) fine unset
  ];
}

-- a term that is put on the trail
pub looked_at_push : (c : Constraints) (before now after : TrailState) (row slack i : ℕ) (t : PositiveTerm) → IsLookedAt c before now row slack i → IsUpToDate c after → after.lits ≡ now.lits ++ t.lit ∷ [] → t ≡ get_or (row_at c.rows row).terms i t → row < length c.rows → i < length (row_at c.rows row).terms → (row_at c.rows row).degree + slack ≡ reachable before.lits (row_at c.rows row).terms → slack < t.coef → value_on now.lits t.lit.var ≡ None → IsLookedAt c before after row slack (i + 1)
looked_at_push c before now after row slack i t is fresh joined read exists h slack_is above free =
    let less = reachable-AddsForced c.rows before.lits now.lits (row_at c.rows row).terms is.forced in
    let forced : IsForced c.rows now.lits t.lit =
    subst (λ (u : PositiveTerm). IsForced c.rows now.lits u.lit) (sym read)
    (forced_by_row c.rows now.lits row i t exists h
    (subst (λ (u : PositiveTerm). value_on now.lits u.lit.var ≡ None) read free)
    (let coef : t.coef ≡ (get_or (row_at c.rows row).terms i t).coef = ap (λ (u : PositiveTerm). u.coef) read in omega arith)) in
    let set' : value_on after.lits t.lit.var ≡ Some t.lit.positive = ap (λ (ls : List Literal). value_on ls t.lit.var) joined ∙ value_on-same now.lits t.lit free in
    looked_at_stays c before after row slack i t
    (record {
      up_to_date = fresh;
      forced = subst (λ (ls : List Literal). AddsForced c.rows before.lits ls) (sym joined) (one_more now.lits t.lit is.forced free forced);
      passed = λ j d low unset. is.passed j d low (value_on-before now.lits t.lit (get_or (row_at c.rows row).terms j d).lit.var free (subst (λ (ls : List Literal). value_on ls (get_or (row_at c.rows row).terms j d).lit.var ≡ None) joined unset));
    })
    read h (λ unset. absurd (let none : ⊥ = cc in none))

-- a row whose terms were all looked at is settled
pub looked_at_all : (c : Constraints) (before now : TrailState) (row slack : ℕ) → IsLookedAt c before now row slack (length (row_at c.rows row).terms) → (row_at c.rows row).degree + slack ≡ reachable before.lits (row_at c.rows row).terms → (head : ℕ) → head ≤ length before.lits → IsSettledFrom head now.lits (row_at c.rows row)
looked_at_all c before now row slack is slack_is head low untouched =
    let same = reachable-untouched c.rows before.lits now.lits head (row_at c.rows row) low is.forced untouched in
    settled_by now.lits (row_at c.rows row) (omega arith) (λ k d h unset. omega (arith, is.passed k d h unset))

-- and has nothing over the slack
pub looked_at_nothing_over : (c : Constraints) (before now : TrailState) (row slack i : ℕ) → IsLookedAt c before now row slack i → i ≡ length (row_at c.rows row).terms → HasNothingOver slack now.lits (row_at c.rows row)
looked_at_nothing_over c before now row slack i is all k d h unset = is.passed k d (omega arith) unset

-- a row none of whose coefficients is above the slack is settled
pub settled_by_widest : (trail : List Literal) (row : PositiveRow) (slack widest head : ℕ) → row.degree + slack ≡ reachable trail row.terms → widest ≤ slack → All (λ (t : PositiveTerm). t.coef ≤ widest) row.terms → IsSettledFrom head trail row
settled_by_widest trail row slack widest head slack_is wide each untouched =
    settled_by trail row (omega arith) (λ k d h unset. omega (arith, each k d h))

-- what `is_none` tells of a variable's value
none_since : (o : Option Bool) → is_some o ≡ false → o ≡ None
none_since None h = refl
none_since (Some b) h = absurd (let none : ⊥ = cc in none)

pub value_is_none : (trail : List Literal) (var read : ℕ) (o : Option Bool) (b : Bool) → read ≡ var → o ≡ value_on trail read → is_some o ≡ not b → b ≡ true → value_on trail var ≡ None
value_is_none trail var read o b same is says yes' =
    let off : is_some o ≡ false = says ∙ ap not yes' in
    ap (value_on trail) (sym same) ∙ (sym is ∙ none_since o off)

pub value_is_some : (trail : List Literal) (var read : ℕ) (o : Option Bool) (b : Bool) → read ≡ var → o ≡ value_on trail read → is_some o ≡ not b → b ≡ false → value_on trail var ≡ None → ⊥
value_is_some trail var read o b same is says no' unset =
    let on : is_some o ≡ true = says ∙ ap not no' in
    let off : o ≡ None = is ∙ (ap (value_on trail) same ∙ unset) in
    let lost : is_some o ≡ false = ap is_some off in
    let none : ⊥ = cc in none

-- forced literals joined, and the rows that are done are settled but for the literals that come after
pub record IsLookedThrough (c : Constraints) (before now : TrailState) (Done : ℕ → Type 0) : Type 0 where
  pub up_to_date : IsUpToDate c now
  pub forced : AddsForced c.rows before.lits now.lits
  pub settled : (r head : ℕ) → Done r → head ≤ length before.lits → IsSettledFrom head now.lits (row_at c.rows r)

pub looked_through_none : (c : Constraints) (before : TrailState) (Done : ℕ → Type 0) → IsUpToDate c before → ((r : ℕ) → Done r → ⊥) → IsLookedThrough c before before Done
looked_through_none c before Done is none = record { up_to_date = is; forced = nothing; settled = λ r head done. absurd (none r done) }

-- one more row is done
pub looked_through_next : (c : Constraints) (before now after : TrailState) (Done More : ℕ → Type 0) (row : ℕ) → IsLookedThrough c before now Done → IsUpToDate c after → AddsForced c.rows now.lits after.lits → ((head : ℕ) → head ≤ length now.lits → IsSettledFrom head after.lits (row_at c.rows row)) → ((r : ℕ) → More r → (Done r) ⊎ (row ≡ r)) → IsLookedThrough c before after More
looked_through_next c before now after Done More row is fresh added here cases =
    let longer = length-AddsForced c.rows before.lits now.lits is.forced in
    record {
      up_to_date = fresh;
      forced = AddsForced-trans c.rows before.lits now.lits after.lits is.forced added;
      settled = λ r head more low. elim (cases r more) [
        | inl done ↦ settled_from-AddsForced c.rows now.lits after.lits head (row_at c.rows r) (omega arith) added (is.settled r head done low)
        | inr at ↦ subst (λ (k : ℕ). IsSettledFrom head after.lits (row_at c.rows k)) at (here head (omega arith))
      ];
    }

-- what joins at the end leaves the places before it
kept_place : (rows : List PositiveRow) (trail new : List Literal) (k : ℕ) (l d : Literal) → AddsForced rows trail new → k < length trail → get_or trail k l ≡ get_or new k d
kept_place rows trail new k l d nothing h = get_or_default trail k l d h
kept_place rows trail new k l d (one_more longer m added free forced) h =
    kept_place rows trail longer k l d added h ∙ sym (get_or_append_left longer (m ∷ []) d k (omega (arith, length-AddsForced rows trail longer added)))

-- forced literals joined, and every row is settled but for the literals from `head` on
pub record IsPropagatedTo (c : Constraints) (before now : TrailState) (head : ℕ) : Type 0 where
  pub up_to_date : IsUpToDate c now
  pub forced : AddsForced c.rows before.lits now.lits
  pub within : head ≤ length now.lits
  pub settled : (r : ℕ) → r < length c.rows → IsSettledFrom head now.lits (row_at c.rows r)

pub propagated_none : (c : Constraints) (before : TrailState) (head : ℕ) → IsUpToDate c before → head ≤ length before.lits → ((r : ℕ) → r < length c.rows → IsSettledFrom head before.lits (row_at c.rows r)) → IsPropagatedTo c before before head
propagated_none c before head is low settled = record { up_to_date = is; forced = nothing; within = low; settled = settled }

-- the rows that the literal at `head` touches were looked at
pub propagated_next : (c : Constraints) (before now after : TrailState) (head : ℕ) (l : Literal) → IsPropagatedTo c before now head → head < length now.lits → l ≡ get_or now.lits head l → IsUpToDate c after → AddsForced c.rows now.lits after.lits → ((r from : ℕ) → r < length c.rows → 0 < weight_of (negation l) (row_at c.rows r).terms → from ≤ length now.lits → IsSettledFrom from after.lits (row_at c.rows r)) → IsPropagatedTo c before after (head + 1)
propagated_next c before now after head l is low read fresh added looked = record {
  up_to_date = fresh;
  forced = AddsForced-trans c.rows before.lits now.lits after.lits is.forced added;
  within = omega (arith, length-AddsForced c.rows now.lits after.lits added);
  settled = λ r exists. elim (cases_lt 0 (weight_of (negation l) (row_at c.rows r).terms)) [
    | inl touched ↦ looked r (head + 1) exists touched (omega arith)
    | inr not_touched ↦ λ untouched. settled_from-AddsForced c.rows now.lits after.lits head (row_at c.rows r) (omega arith) added (is.settled r exists)
        (λ k d from upto. elim (cases_eq k head) [
          | inl same_place ↦
              let there : get_or after.lits k d ≡ l = rw same_place (sym (read ∙ kept_place c.rows now.lits after.lits head l d added low)) in
              let zero_weight : weight_of (negation l) (row_at c.rows r).terms ≡ 0 = omega arith in
              subst (λ (m : Literal). weight_of (negation m) (row_at c.rows r).terms ≡ 0) (sym there) zero_weight
          | inr other ↦ untouched k d (omega arith) upto
        ])
  ];
}
