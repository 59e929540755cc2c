-- How the reader cuts the first token from the bytes of a line.
use Rattle.std.specs.Prelude.{ℕ, Bool, ◌-◌, ◌==◌, if◌then◌else◌, List, [], ◌∷◌, map, take_while, drop}
use Rattle.std.specs.Int.Digits.{number_from_digits_after}
use Rattle.pb_inst.specs.declared.constraints.Relation.TheVariants.{AtLeast, AtMost, Equal}
use Rattle.pb_read.specs.Runs.{first_is}
use Rattle.pb_read.specs.Text.{is_digit}
use Rattle.pb_read.specs.Opb.{Token, End, Related, Bad, is_word_byte}

-- the leading bytes that belong to a word, which ends after a `:` (58)
abbrev pub word_front : List ℕ → List ℕ
word_front [] = []
word_front (b ∷ bs) = if is_word_byte b then b ∷ (if b == 58 then [] else word_front bs) else []

-- what stands after them
abbrev pub after_word : List ℕ → List ℕ
after_word [] = []
after_word (b ∷ bs) = if is_word_byte b then (if b == 58 then bs else after_word bs) else b ∷ bs

-- the number that the digits of n write, followed by the digits at the front of the bytes
abbrev pub value_after : ℕ → List ℕ → ℕ
value_after n bytes = number_from_digits_after 10 n (map (λ d. d - 48) (take_while is_digit bytes))

abbrev pub begins_equal : List ℕ → Bool
begins_equal rest = first_is (λ b. b == 61) rest

-- the token that begins with one of ; = < >, before the rest
abbrev pub sign_token : ℕ → List ℕ → Token
sign_token b rest =
    if b == 59 then End
    else (if b == 61 then Related Equal
    else (if begins_equal rest then Related (if b == 62 then AtLeast else AtMost)
    else Bad))

-- what stands after it
abbrev pub after_sign : ℕ → List ℕ → List ℕ
after_sign b rest =
    if b == 59 then rest
    else (if b == 61 then rest
    else (if begins_equal rest then drop 1 rest
    else rest))
