-- The words of the lines of a report that is written.
use Rattle.std.proofs.Common.{◌≡◌, ℕ, ℤ, suc, pos, negsuc, neg_ℤ, ◌+◌, ◌^◌, ◌<◌, ◌≤◌, ◌%◌, ◌&&◌, Bool, true, false, List, [], ◌∷◌, ◌++◌, length, length-append, drop, slice_index, None, Some, codes, decimal, unsigned_abs, refl, sym, ◌∙◌, ap, subst, arith, append_assoc, append-nil}
use Rattle.std.specs.Fmt.{signed_decimal}
use Rattle.std.specs.List.{list_all}
use Rattle.std.specs.Str.Parse.{IsNumeral, digits_value, starts_with_minus, without_leading_plus, without_leading_sign}
use Rattle.std.proofs.lemmas.Bool.{and_from, cond-false, ne_eqb}
use Rattle.std.proofs.lemmas.Fmt.{decimal_by_steps_wide, decimal_is_IsNumeral_wide}
use Rattle.std.proofs.lemmas.List.Folds.{list_all-append}
use Rattle.std.proofs.lemmas.Str.Parse.{digit_at, without_leading_plus_none}
use Rattle.pb_read.specs.declared.format.Format.{Format}
use Rattle.pb_read.specs.declared.format.Format.TheVariants.{Opb, Cnf, Icnf}
use Rattle.pb_report.specs.Lines.{rows}
use Rattle.pb_report.specs.Numbers.{IsCount, IsNumber}
use Rattle.pb_report.specs.Written.{cost_line, ending, literals, sign, value_line}
use Rattle.pb_report.proofs.PlainWords.{ArePlain, AreInk, is_ink, is_plain, ink_byte, ink_first, ink_plain, row_of, words_from}

-- ---- numbers

one_digit : (n : ℕ) → n < 10 → AreInk ((48 + n) ∷ []) × (0 < length ((48 + n) ∷ []))
one_digit n small = (and_from (is_ink (48 + n)) true (ink_byte (48 + n) (omega arith) (omega arith)) refl, omega arith)

digit_more : (n : ℕ) (ds : List ℕ) → 10 ≤ n → AreInk ds × (0 < length ds) → AreInk (ds ++ (48 + n % 10) ∷ []) × (0 < length (ds ++ (48 + n % 10) ∷ []))
digit_more n ds large h = (
  list_all-append is_ink ds ((48 + n % 10) ∷ []) ∙ and_from (list_all is_ink ds) (is_ink (48 + n % 10) && true) h.0 (and_from (is_ink (48 + n % 10)) true (ink_byte (48 + n % 10) (omega arith) (omega arith)) refl),
  (let all = length-append ds ((48 + n % 10) ∷ []) in omega arith),
)

pub decimal_ink : (n : ℕ) → n < 10 ^ 64 → AreInk (decimal n) × (0 < length (decimal n))
decimal_ink n small = decimal_by_steps_wide (λ _ ds. AreInk ds × (0 < length ds)) one_digit digit_more n small

signed_ink : (z : ℤ) → unsigned_abs z < 10 ^ 64 → AreInk (signed_decimal z) × (0 < length (signed_decimal z))
signed_ink (pos n) small = decimal_ink n small
signed_ink (negsuc n) small = ((decimal_ink (suc n) small).0, omega arith)

pub count_of : (n : ℕ) → n < 10 ^ 64 → IsCount (decimal n) n
count_of n small = decimal_is_IsNumeral_wide n small

pub number_of : (z : ℤ) → unsigned_abs z < 10 ^ 64 → IsNumber (signed_decimal z) z
number_of (pos n) small =
    let numeral = decimal_is_IsNumeral_wide n small in
    let first = digit_at (decimal n) 0 numeral.0.1 numeral.0.0 in
    let unsigned : starts_with_minus (decimal n) ≡ false = ne_eqb (slice_index (decimal n) 0) 45 (λ e. absurd (omega (arith, e, first.0))) in
    let bare : without_leading_sign (decimal n) ≡ decimal n =
    cond-false (starts_with_minus (decimal n)) (drop 1 (decimal n)) (without_leading_plus (decimal n)) unsigned
    ∙ without_leading_plus_none (decimal n) (λ e. absurd (omega (arith, e, first.0))) in (
      subst (IsNumeral 10) (sym bare) numeral.0,
      cond-false (starts_with_minus (decimal n)) _ (pos (digits_value 10 (without_leading_sign (decimal n)))) unsigned
          ∙ ap (λ ds. pos (digits_value 10 ds)) bare ∙ ap pos numeral.1,
    )
number_of (negsuc n) small =
    let numeral = decimal_is_IsNumeral_wide (suc n) small in
    (numeral.0, ap (λ (m : ℕ). neg_ℤ (pos m)) numeral.1)

-- ---- the `v` line

-- a literal's sign without the space before it
abbrev pub bare_sign : Format → Bool → List ℕ
bare_sign Opb true = codes "x"
bare_sign Opb false = codes "-x"
bare_sign Cnf true = []
bare_sign Cnf false = codes "-"
bare_sign Icnf true = []
bare_sign Icnf false = codes "-"

sign_is : (format : Format) (value : Bool) → sign format value ≡ 32 ∷ bare_sign format value
sign_is Opb true = refl
sign_is Opb false = refl
sign_is Cnf true = refl
sign_is Cnf false = refl
sign_is Icnf true = refl
sign_is Icnf false = refl

-- the words of the literals of some values, the first of them of the variable n, and the word of their end
abbrev pub value_words : Format → ℕ → List Bool → List (List ℕ)
value_words format n [] = []
value_words format n (value ∷ values) = (bare_sign format value ++ decimal n) ∷ value_words format (n + 1) values

abbrev pub end_words : Format → List (List ℕ)
end_words Opb = []
end_words Cnf = codes "0" ∷ []
end_words Icnf = codes "0" ∷ []

bare_ink : (format : Format) (value : Bool) → AreInk (bare_sign format value)
bare_ink Opb true = refl
bare_ink Opb false = refl
bare_ink Cnf true = refl
bare_ink Cnf false = refl
bare_ink Icnf true = refl
bare_ink Icnf false = refl

literal_ink : (format : Format) (value : Bool) (n : ℕ) → n < 10 ^ 64 → AreInk (bare_sign format value ++ decimal n) × (0 < length (bare_sign format value ++ decimal n))
literal_ink format value n small =
    let digits = decimal_ink n small in (
      list_all-append is_ink (bare_sign format value) (decimal n) ∙ and_from (list_all is_ink (bare_sign format value)) (list_all is_ink (decimal n)) (bare_ink format value) digits.0,
      (let all = length-append (bare_sign format value) (decimal n) in let some = digits.1 in omega arith),
    )

-- a variable has few digits
pub has_few_digits : (n : ℕ) → n ≤ 2 ^ 32 → n < 10 ^ 64
has_few_digits n small = omega arith

end_read : (format : Format) (word : List ℕ) → words_from (Some word) (ending format) ≡ word ∷ end_words format
end_read Opb word = refl
end_read Cnf word = refl
end_read Icnf word = refl

literals_read : (format : Format) (n : ℕ) (values : List Bool) (word : List ℕ) → n + length values ≤ 2 ^ 32 → words_from (Some word) (literals format n values ++ ending format) ≡ word ∷ (value_words format n values ++ end_words format)
literals_read format n [] word small = end_read format word
literals_read format n (value ∷ values) word small =
    let rest = literals format (n + 1) values ++ ending format in
    let one = bare_sign format value ++ decimal n in
    let ink = literal_ink format value n (has_few_digits n (omega arith)) in
    let split : literals format n (value ∷ values) ++ ending format ≡ 32 ∷ (one ++ rest) =
    append_assoc (sign format value ++ decimal n) (literals format (n + 1) values) (ending format)
    ∙ ap (λ s. (s ++ decimal n) ++ rest) (sign_is format value) in
    ap (words_from (Some word)) split
    ∙ ap (λ ws. word ∷ ws) (ink_first one rest ink.0 ink.1 ∙ literals_read format (n + 1) values one (omega arith))

sign_plain : (format : Format) (value : Bool) → ArePlain (sign format value)
sign_plain Opb true = refl
sign_plain Opb false = refl
sign_plain Cnf true = refl
sign_plain Cnf false = refl
sign_plain Icnf true = refl
sign_plain Icnf false = refl

ending_plain : (format : Format) → ArePlain (ending format)
ending_plain Opb = refl
ending_plain Cnf = refl
ending_plain Icnf = refl

pub plain_both : (xs ys : List ℕ) → ArePlain xs → ArePlain ys → ArePlain (xs ++ ys)
plain_both xs ys h k = list_all-append is_plain xs ys ∙ and_from (list_all is_plain xs) (list_all is_plain ys) h k

literals_plain : (format : Format) (n : ℕ) (values : List Bool) → n + length values ≤ 2 ^ 32 → ArePlain (literals format n values)
literals_plain format n [] small = refl
literals_plain format n (value ∷ values) small =
    plain_both (sign format value ++ decimal n) (literals format (n + 1) values)
    (plain_both (sign format value) (decimal n) (sign_plain format value) (ink_plain (decimal n) (decimal_ink n (has_few_digits n (omega arith))).0))
    (literals_plain format (n + 1) values (omega arith))

pub value_row : (format : Format) (values : List Bool) (rest : List ℕ) → length values < 2 ^ 32 → rows (value_line format values ++ rest) ≡ (codes "v" ∷ (value_words format 1 values ++ end_words format)) ∷ rows rest
value_row format values rest small =
    row_of (codes "v" ++ literals format 1 values ++ ending format) rest
    (plain_both (codes "v") (literals format 1 values ++ ending format) refl (plain_both (literals format 1 values) (ending format) (literals_plain format 1 values (omega arith)) (ending_plain format)))
    ∙ ap (λ ws. ws ∷ rows rest) (literals_read format 1 values (codes "v") (omega arith))

pub cost_row : (cost : ℤ) (rest : List ℕ) → unsigned_abs cost < 10 ^ 64 → rows (cost_line cost ++ rest) ≡ (codes "o" ∷ signed_decimal cost ∷ []) ∷ rows rest
cost_row cost rest small =
    let ink = signed_ink cost small in
    row_of (codes "o " ++ signed_decimal cost) rest (plain_both (codes "o ") (signed_decimal cost) refl (ink_plain (signed_decimal cost) ink.0))
    ∙ ap (λ ws. (codes "o" ∷ ws) ∷ rows rest) (ap (words_from None) (sym (append-nil (signed_decimal cost))) ∙ ink_first (signed_decimal cost) [] ink.0 ink.1)
