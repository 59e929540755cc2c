-- Tokens as the code has them, in which the greatest number that is read stands for each number above it.
use Rattle.std.specs.Prelude.{ℕ, pos, min, Bool, unsigned_abs, int_lt, neg_ℤ, if◌then◌else◌}
use Rattle.pb_read.specs.declared.digits.TheConstants.{GREATEST_READ, GREATEST_COUNT}
use Rattle.pb_read.specs.declared.opb.token.Token as code
use Rattle.pb_read.specs.declared.opb.token.Token.TheVariants as variants
use Rattle.pb_read.specs.Runs.{first_is}
use Rattle.pb_read.specs.Text.{is_blank}
use Rattle.pb_read.specs.Opb as opb
use Rattle.pb_read.specs.Opb.{line_tokens}
use Rattle.std.specs.Prelude.{List, [], ◌∷◌, length, ◌==◌, ◌||◌, Option, Some, None, ◌≡◌}

abbrev pub cap : ℕ → ℕ
cap n = min n GREATEST_READ

-- an index or a count as the code has it
abbrev pub cap_count : ℕ → ℕ
cap_count n = min (cap n) GREATEST_COUNT

abbrev pub capped : opb.Token → code.Token
capped opb.End = variants.End
capped opb.Min = variants.Min
capped (opb.Related r) = variants.Related r
capped (opb.Number n) = variants.Number (int_lt n (pos 0)) (cap (unsigned_abs n))
capped (opb.Lit l) = variants.Literal l.positive (cap_count l.var)
capped opb.Bad = variants.Bad

-- the first token of a line's bytes and the bytes after it, where there is one
abbrev pub IsNextToken : List ℕ → Option (code.Token × List ℕ) → Type 0
IsNextToken bytes None = line_tokens bytes ≡ []
IsNextToken bytes (Some r) = (t : opb.Token) × (line_tokens bytes ≡ t ∷ line_tokens r.1) × (r.0 ≡ capped t)

-- the token that a token of the code stands for
abbrev pub read_back : code.Token → opb.Token
read_back variants.End = opb.End
read_back variants.Min = opb.Min
read_back (variants.Related r) = opb.Related r
read_back (variants.Number negative size) = opb.Number (if negative then neg_ℤ (pos size) else pos size)
read_back (variants.Literal positive var) = opb.Lit (record { positive = positive; var = var })
read_back variants.Bad = opb.Bad

-- a blank comes next, or the end
abbrev pub ends_word : List ℕ → Bool
ends_word rest = first_is is_blank rest || length rest == 0
