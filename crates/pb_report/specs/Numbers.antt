-- Numbers in digits.
use Rattle.std.specs.Prelude.{◌≡◌, ℕ, ℤ, List}
use Rattle.std.specs.Int.{w128}
use Rattle.std.specs.Int.RustNames.{FitsSigned}
use Rattle.std.specs.Str.Parse.{IsNumeral, digits_value, signed_digits_value, without_leading_sign}

-- one digit or more, which write the number
abbrev pub IsCount : List ℕ → ℕ → Type 0
IsCount digits n = IsNumeral 10 digits × (digits_value 10 digits ≡ n)

-- the same after a sign, or without one
abbrev pub IsNumber : List ℕ → ℤ → Type 0
IsNumber word z = IsNumeral 10 (without_leading_sign word) × (signed_digits_value 10 word ≡ z)

-- the number has 128 bits, its sign among them
abbrev pub Fits128 : ℤ → Type 0
Fits128 z = FitsSigned w128 z
