-- Flags kept 64 to a word.
use Rattle.std.specs.Prelude.{ℕ, ◌*◌, ◌/◌, ◌%◌, ◌^◌, ◌<◌, ◌≤◌, ◌≡◌, Bool, false, List, length, map, nat_eq, slice_index}
use Rattle.std.specs.Int.{bit_at}
use Rattle.std.specs.List.{range_with_len}

abbrev pub is_set : List ℕ → ℕ → Bool
is_set words i = nat_eq (bit_at (slice_index words (i / 64)) (i % 64)) 1

unfoldable pub bits_of : List ℕ → ℕ → List Bool
bits_of words count = map (λ i. is_set words i) (range_with_len 0 count)

-- there are words for all flags, and no bit past the last flag is set
pub record AreBits (words : List ℕ) (count : ℕ) : Type 0 where
  pub room : count < 64 * length words
  pub small : count < 2 ^ 63
  pub clean : (i : ℕ) → count ≤ i → is_set words i ≡ false
