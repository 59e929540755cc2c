-- A token whose number is capped is gathered as the token itself.
use Rattle.std.proofs.Common.{◌≡◌, ℕ, zero, suc, ◌+◌, ◌<◌, ◌≤◌, refl, sym, ap, ◌∙◌, List, [], ◌∷◌, ◌++◌, Bool, true, false, Some, None, arith, ltb, eqb, inl, inr, cond, ℤ, pos, negsuc}
use Rattle.std.specs.Prelude.{unsigned_abs, int_lt}
use Rattle.std.proofs.lemmas.Bool.{cases_Bool, ltb-true, ltb-false, lt-ltb, le-ltb, ne_eqb, or_parts}
use Rattle.pb_inst.specs.declared.limits.TheConstants.{MAX_VARS, SUM_BOUND}
use Rattle.pb_read.specs.declared.opb.form.Place.{Place}
use Rattle.pb_read.specs.declared.opb.form.Place.TheVariants.{Start, Terms, Coefficient, Literals, AfterRelation, AfterNumber, Whole, Wrong}
use Rattle.pb_read.specs.declared.opb.token.Token as code
use Rattle.pb_read.specs.Opb.{Token, End, Min, Related, Number, Lit, Bad, is_min, is_literal, has_bad_index, size}
use Rattle.pb_read.specs.Capped.{cap, cap_count, capped, read_back}
use Rattle.pb_read.specs.Building.{signed}
use Rattle.pb_read.specs.Places.{next_place}
use Rattle.pb_read.specs.Drafts.{Gathered, gather, gathered, within_bound, number_after, relation_after, good_literal}
use Rattle.pb_read.proofs.Drafting.{gathered_more}
use Rattle.pb_inst.specs.Literal.{Literal}
use Rattle.pb_inst.specs.declared.constraints.Relation.{Relation}

abbrev pub same : Token → Token
same t = read_back (capped t)

same_min : (t : Token) → is_min (same t) ≡ is_min t
same_min End = refl
same_min Min = refl
same_min (Related r) = refl
same_min (Number n) = refl
same_min (Lit l) = refl
same_min Bad = refl

same_literal : (t : Token) → is_literal (same t) ≡ is_literal t
same_literal End = refl
same_literal Min = refl
same_literal (Related r) = refl
same_literal (Number n) = refl
same_literal (Lit l) = refl
same_literal Bad = refl

zero_cap : (n : ℕ) → eqb (cap_count n) 0 ≡ eqb n 0
zero_cap zero = refl
zero_cap (suc n) = ne_eqb (cap_count (suc n)) 0 (λ e. absurd (omega (arith, e))) ∙ sym (ne_eqb (suc n) 0 (λ e. absurd (omega (arith, e))))

over_cap : (n : ℕ) → ltb MAX_VARS (cap_count n) ≡ ltb MAX_VARS n
over_cap n = elim (cases_Bool (ltb MAX_VARS n)) [
  | inl t ↦ let over : MAX_VARS < n = ltb-true MAX_VARS n t in lt-ltb MAX_VARS (cap_count n) (omega arith) ∙ sym t
  | inr f ↦ let under : n ≤ MAX_VARS = ltb-false MAX_VARS n f in le-ltb MAX_VARS (cap_count n) (omega arith) ∙ sym f
]

same_index : (t : Token) → has_bad_index (same t) ≡ has_bad_index t
same_index End = refl
same_index Min = refl
same_index (Related r) = refl
same_index (Number n) = refl
same_index (Lit l) = rw (zero_cap l.var, over_cap l.var) refl
same_index Bad = refl

same_place : (p : Place) (t : Token) → next_place p (same t) ≡ next_place p t
same_place p End = refl
same_place p Min = refl
same_place p (Related r) = refl
same_place p Bad = refl
same_place Start (Number n) = refl
same_place (Terms true) (Number n) = refl
same_place (Terms false) (Number n) = refl
same_place (Coefficient o) (Number n) = refl
same_place (Literals true) (Number n) = refl
same_place (Literals false) (Number n) = refl
same_place AfterRelation (Number n) = refl
same_place AfterNumber (Number n) = refl
same_place Whole (Number n) = refl
same_place Wrong (Number n) = refl
same_place Start (Lit l) = refl
same_place (Terms true) (Lit l) = refl
same_place (Terms false) (Lit l) = refl
same_place (Coefficient o) (Lit l) = refl
same_place (Literals o) (Lit l) = refl
same_place AfterRelation (Lit l) = refl
same_place AfterNumber (Lit l) = refl
same_place Whole (Lit l) = refl
same_place Wrong (Lit l) = refl

abs_signed : (negative : Bool) (n : ℕ) → unsigned_abs (signed negative n) ≡ n
abs_signed true zero = refl
abs_signed true (suc n) = refl
abs_signed false n = refl

size_same : (t : Token) → size (same t) ≡ cap (size t)
size_same End = refl
size_same Min = refl
size_same (Related r) = refl
size_same (Number n) = abs_signed (int_lt n (pos 0)) (cap (unsigned_abs n))
size_same (Lit l) = refl
size_same Bad = refl

same_sum : (sum : ℕ) (t : Token) → cap (sum + size (same t)) ≡ cap (sum + size t)
same_sum sum t = omega (arith, size_same t)

signed_abs : (n : ℤ) → signed (int_lt n (pos 0)) (unsigned_abs n) ≡ n
signed_abs (pos zero) = refl
signed_abs (pos (suc n)) = rw (le-ltb (suc n) 0 (omega arith)) refl
signed_abs (negsuc n) = refl

over : (n : ℤ) → ltb SUM_BOUND (unsigned_abs n) ≡ true → within_bound n ≡ pos 0
over n h = rw h refl

same_within : (n : ℤ) → within_bound (signed (int_lt n (pos 0)) (cap (unsigned_abs n))) ≡ within_bound n
same_within n = elim (cases_Bool (ltb SUM_BOUND (unsigned_abs n))) [
  | inl t ↦
      let large : SUM_BOUND < unsigned_abs n = ltb-true SUM_BOUND (unsigned_abs n) t in
      let capped : SUM_BOUND < unsigned_abs (signed (int_lt n (pos 0)) (cap (unsigned_abs n))) = omega (arith, large, abs_signed (int_lt n (pos 0)) (cap (unsigned_abs n))) in
      over (signed (int_lt n (pos 0)) (cap (unsigned_abs n))) (lt-ltb SUM_BOUND _ capped) ∙ sym (over n t)
  | inr f ↦
      let small : unsigned_abs n ≤ SUM_BOUND = ltb-false SUM_BOUND (unsigned_abs n) f in
      let kept : cap (unsigned_abs n) ≡ unsigned_abs n = omega (arith, small) in
      ap (λ (m : ℕ). within_bound (signed (int_lt n (pos 0)) m)) kept ∙ ap within_bound (signed_abs n)
]

same_number : (before : ℤ) (t : Token) → number_after before (same t) ≡ number_after before t
same_number before End = refl
same_number before Min = refl
same_number before (Related r) = refl
same_number before (Number n) = same_within n
same_number before (Lit l) = refl
same_number before Bad = refl

same_relation : (before : Relation) (t : Token) → relation_after before (same t) ≡ relation_after before t
same_relation before End = refl
same_relation before Min = refl
same_relation before (Related r) = refl
same_relation before (Number n) = refl
same_relation before (Lit l) = refl
same_relation before Bad = refl

abbrev of_index : Bool → ℕ → Literal
of_index positive n = record { positive = positive; var = n }

same_good : (t : Token) → good_literal (same t) ≡ good_literal t
same_good End = refl
same_good Min = refl
same_good (Related r) = refl
same_good (Number n) = refl
same_good Bad = refl
same_good (Lit l) = elim (cases_Bool (has_bad_index (Lit l))) [
  | inl t ↦ bad (of_index l.positive (cap_count l.var)) (same_index (Lit l) ∙ t) ∙ sym (bad l t)
  | inr f ↦
      let p = or_parts (eqb l.var 0) (ltb MAX_VARS l.var) f in
      let le : l.var ≤ MAX_VARS = ltb-false MAX_VARS l.var p.1 in
      let kept : cap_count l.var ≡ l.var = omega (arith, le) in
      ap (λ (n : ℕ). good_literal (Lit (of_index l.positive n))) kept
]
  where
    bad : (l : Literal) → has_bad_index (Lit l) ≡ true → good_literal (Lit l) ≡ None
    bad l h = ap (λ (b : Bool). cond b None (Some l)) h

-- a token whose number is capped leaves the same draft
gather_same : (d : Gathered) (t : Token) → gather d (same t) ≡ gather d t
gather_same d t = rw (same_place d.place t, same_min t, same_literal t, same_index t, same_sum d.sum t, same_number d.number t, same_relation d.relation t, same_good t) refl

pub gathered_token : (begun : List Token) (held after : Gathered) (token : code.Token) (t : Token) → held ≡ gathered begun → after ≡ gather held (read_back token) → token ≡ capped t → after ≡ gathered (begun ++ t ∷ [])
gathered_token begun held after token t h e is =
    e ∙ ap (λ (x : code.Token). gather held (read_back x)) is ∙ gather_same held t ∙ ap (λ (d : Gathered). gather d t) h ∙ sym (gathered_more begun t)
