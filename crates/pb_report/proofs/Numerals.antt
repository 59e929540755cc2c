-- Digits are text.
use Rattle.std.proofs.Common.{◌≡◌, ℕ, zero, suc, ◌<◌, ◌==◌, List, [], ◌∷◌, drop, subst, arith, inl, inr, IsAscii, IsUtf8}
use Rattle.std.specs.Str.Parse.{AllDigits, without_leading_plus, without_leading_sign}
use Rattle.std.proofs.lemmas.Bool.{cases_Bool, cond-false, cond-true, eqb-true}
use Rattle.std.proofs.lemmas.Fmt.{IsAscii-from_digits}
use Rattle.std.proofs.lemmas.Str.{IsUtf8-from_ascii}

pub digits_text : (digits : List ℕ) → AllDigits 10 digits → IsUtf8 digits
digits_text digits h = IsUtf8-from_ascii digits (IsAscii-from_digits digits h)

ascii_more : (b : ℕ) (rest : List ℕ) → b < 128 → IsAscii rest → IsAscii (b ∷ rest)
ascii_more b rest small h zero = small
ascii_more b rest small h (suc i) = h i

-- the same behind a sign
pub number_text : (word : List ℕ) → AllDigits 10 (without_leading_sign word) → IsUtf8 word
number_text [] h = digits_text [] tt
number_text (b ∷ rest) h = elim (cases_Bool (b == 45)) [
  | inl minus ↦
      let is : b ≡ 45 = eqb-true b 45 minus in
      IsUtf8-from_ascii (b ∷ rest) (ascii_more b rest (omega (arith, is)) (IsAscii-from_digits rest (subst (AllDigits 10) (cond-true (b == 45) rest (without_leading_plus (b ∷ rest)) minus) h)))
  | inr other ↦
      let plain : AllDigits 10 (without_leading_plus (b ∷ rest)) = subst (AllDigits 10) (cond-false (b == 45) rest (without_leading_plus (b ∷ rest)) other) h in
      elim (cases_Bool (b == 43)) [
        | inl plus ↦
            let is : b ≡ 43 = eqb-true b 43 plus in
            IsUtf8-from_ascii (b ∷ rest) (ascii_more b rest (omega (arith, is)) (IsAscii-from_digits rest (subst (λ (n : ℕ). AllDigits 10 (drop n (b ∷ rest))) (cond-true (b == 43) 1 0 plus) plain)))
        | inr none ↦ digits_text (b ∷ rest) (subst (λ (n : ℕ). AllDigits 10 (drop n (b ∷ rest))) (cond-false (b == 43) 1 0 none) plain)
      ]
]
