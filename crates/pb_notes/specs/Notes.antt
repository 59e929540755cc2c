-- The bytes of a note, and what is read of one.
use Rattle.std.specs.Prelude.{◌≡◌, ◌⊎◌, ℕ, ℤ, Bool, true, false, List, ◌++◌, codes, map, nat_eq}
use Rattle.std.specs.Fmt.{signed_decimal}
use Rattle.hex.specs.Hex.{encode_lower}

-- an assignment, and the cost that its note tells
pub record NoteView : Type 0 where
  pub cost : ℤ
  pub values : List Bool

-- the digit of a value, `0` or `1`
abbrev pub digit_of : Bool → ℕ
digit_of false = 48
digit_of true = 49

-- a byte is one of the two digits
abbrev pub IsDigit : ℕ → Type 0
IsDigit byte = (byte ≡ 48) ⊎ (byte ≡ 49)

-- whether a digit is `1`
abbrev pub is_one : ℕ → Bool
is_one digit = nat_eq digit 49

-- `pbcube note of instance <digits of the digest>`
abbrev pub instance_line : List ℕ → List ℕ
instance_line digest = codes "pbcube note of instance " ++ encode_lower digest ++ codes "\n"

-- `cost <cost>`
abbrev pub cost_line : ℤ → List ℕ
cost_line cost = codes "cost " ++ signed_decimal cost ++ codes "\n"

-- `values <digits of all variables, from the first on>`
abbrev pub values_line : List Bool → List ℕ
values_line values = codes "values " ++ map digit_of values ++ codes "\n"

-- the text of a note: of which instance it is, what the assignment costs, and its values
abbrev pub note_text : List ℕ → ℤ → List Bool → List ℕ
note_text digest cost values = instance_line digest ++ cost_line cost ++ values_line values
