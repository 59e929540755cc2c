-- The digits of a number, as readers see them.
use Rattle.std.proofs.Common.{◌≡◌, ℕ, ◌+◌, ◌-◌, ◌*◌, ◌/◌, ◌%◌, ◌^◌, ◌<◌, ◌≤◌, List, [], ◌∷◌, ◌++◌, Bool, true, cond, ◌&&◌, map, decimal, leb, refl, sym, ap, ◌∙◌, arith}
use Rattle.std.specs.List.{list_all}
use Rattle.std.specs.Int.Digits.{number_from_digits}
use Rattle.std.proofs.lemmas.Bool.{agree_below, agree_below_at, and_parts, and_from, leb-true, le-leb, cond-true, false≢true}
use Rattle.std.proofs.lemmas.Fmt.{decimal_by_steps_wide}
use Rattle.std.proofs.lemmas.Int.Digits.{number_push}
use Rattle.std.proofs.lemmas.List.{map-append}
use Rattle.std.proofs.lemmas.List.Folds.{list_all-append}
use Rattle.pb_read.specs.Runs.{first_is}
use Rattle.pb_read.specs.Text.{is_digit, are_digits, value}

abbrev of_digits : (ℕ → Bool) → ℕ → Bool
of_digits test b = cond (is_digit b) (test b) true

abbrev pub always : ℕ → Bool
always b = true

-- a test that the ten digits pass is passed by each digit
pub digit_passes : (test : ℕ → Bool) → agree_below (of_digits test) always 58 ≡ true → (b : ℕ) → is_digit b ≡ true → test b ≡ true
digit_passes test all b t =
    let high = leb-true b 57 (and_parts (leb 48 b) (leb b 57) t).1 in
    sym (cond-true (is_digit b) (test b) true t) ∙ agree_below_at (of_digits test) always 58 b all (omega arith)

-- digits that write the number
pub record IsNumeral (n : ℕ) (ds : List ℕ) : Type 0 where
  pub first : first_is is_digit ds ≡ true
  pub each : list_all is_digit ds ≡ true
  pub value_is : value ds ≡ n

pub are_digits_of : (n : ℕ) (ds : List ℕ) → IsNumeral n ds → are_digits ds ≡ true
are_digits_of n ds h = and_from (first_is is_digit ds) (list_all is_digit ds) h.first h.each

digit_byte : (d : ℕ) → d < 10 → is_digit (48 + d) ≡ true
digit_byte d small = and_from (leb 48 (48 + d)) (leb (48 + d) 57) (le-leb 48 (48 + d) (omega arith)) (le-leb (48 + d) 57 (omega arith))

pub first_append : (test : ℕ → Bool) (xs ys : List ℕ) → first_is test xs ≡ true → first_is test (xs ++ ys) ≡ true
first_append test [] ys h = absurd (false≢true h)
first_append test (x ∷ xs) ys h = h

one_digit : (n : ℕ) → n < 10 → IsNumeral n ((48 + n) ∷ [])
one_digit n small = record {
  first = digit_byte n small;
  each = and_from (is_digit (48 + n)) true (digit_byte n small) refl;
  value_is = omega arith;
}

one_more : (n : ℕ) (ds : List ℕ) → 10 ≤ n → IsNumeral (n / 10) ds → IsNumeral n (ds ++ (48 + n % 10) ∷ [])
one_more n ds large h =
    let digit : is_digit (48 + n % 10) ≡ true = digit_byte (n % 10) (omega arith) in
    let front = h.value_is in
    let all : value (ds ++ (48 + n % 10) ∷ []) ≡ value ds * 10 + (48 + n % 10 - 48) =
    ap (number_from_digits 10) (map-append (λ d. d - 48) ds ((48 + n % 10) ∷ [])) ∙ number_push 10 (map (λ d. d - 48) ds) (48 + n % 10 - 48) in
    record {
      first = first_append is_digit ds ((48 + n % 10) ∷ []) h.first;
      each = list_all-append is_digit ds ((48 + n % 10) ∷ []) ∙ and_from (list_all is_digit ds) (is_digit (48 + n % 10) && true) h.each (and_from (is_digit (48 + n % 10)) true digit refl);
      value_is = omega arith;
    }

pub decimal_numeral : (n : ℕ) → n < 10 ^ 64 → IsNumeral n (decimal n)
decimal_numeral n small = decimal_by_steps_wide IsNumeral one_digit one_more n small
