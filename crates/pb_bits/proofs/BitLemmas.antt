-- Flags kept 64 to a word.
use Rattle.std.proofs.Common.{◌≡◌, ◌≢◌, ℕ, ◌+◌, ◌-◌, ◌*◌, ◌/◌, ◌%◌, ◌^◌, ◌<◌, ◌≤◌, List, length, get_or, set, replicate, refl, sym, ◌∙◌, ap, subst, arith, Bool, true, false, eqb, inl, inr, zero, suc, length-set, get_or-set_same, get_or-set_other, pow-add}
use Rattle.std.specs.Int.{bit_at, w64, trailing_zeros}
use Rattle.std.proofs.Math.Nat.{div-div-eq-div-mul, div-le_self}
use Rattle.std.proofs.lemmas.Bool.{cases_eq, cases_lt}
use Rattle.std.proofs.lemmas.List.{same_lists, length-replicate, get_or-replicate, get_or_past}
use Rattle.std.proofs.lemmas.List.FromFn.{length-map-range_with_len, get_or-map-range_with_len}
use Rattle.std.proofs.lemmas.Nat.Bits.{bit_at-zero, bit_at-trailing_zeros, bit_at_above}
use Rattle.pb_bits.specs.Bits.{is_set, bits_of}
use Rattle.pb_bits.specs.RowSet.{HasMember, HasNoneBetween}

pub length-bits_of : (words : List ℕ) (count : ℕ) → length (bits_of words count) ≡ count
unfolding bits_of
length-bits_of words count = length-map-range_with_len (λ (i : ℕ). is_set words i) 0 count

pub bit-is : (words : List ℕ) (count i : ℕ) (d : Bool) → i < count → get_or (bits_of words count) i d ≡ is_set words i
unfolding bits_of
bit-is words count i d h = get_or-map-range_with_len (λ (j : ℕ). is_set words j) 0 count i i d h (omega arith)

-- past all flags none is set
pub bit-past : (words : List ℕ) (count i : ℕ) → count ≤ i → get_or (bits_of words count) i false ≡ false
bit-past words count i h = get_or_past (bits_of words count) i false (omega (arith, length-bits_of words count))

zeros : (n i : ℕ) → get_or (replicate {A = ℕ} n 0) i 0 ≡ 0
zeros zero i = refl
zeros (suc n) zero = refl
zeros (suc n) (suc i) = zeros n i

-- no bit of a word of none is set
zero_word : (words : List ℕ) (i : ℕ) → get_or words (i / 64) 0 ≡ 0 → is_set words i ≡ false
zero_word words i none = ap (λ (w : ℕ). eqb (bit_at w (i % 64)) 1) none ∙ ap (λ (b : ℕ). eqb b 1) (bit_at-zero (i % 64))

pub none_is_set : (words : List ℕ) (n i : ℕ) → words ≡ replicate {A = ℕ} n 0 → is_set words i ≡ false
none_is_set words n i is = zero_word words i (ap (λ (ws : List ℕ). get_or ws (i / 64) 0) is ∙ zeros n (i / 64))

pub none_set : (words : List ℕ) (count n : ℕ) → words ≡ replicate {A = ℕ} n 0 → bits_of words count ≡ replicate count false
none_set words count n is = same_lists (bits_of words count) (replicate count false) (length-bits_of words count ∙ sym (length-replicate count false)) (λ i d h.
    (let low : i < count = omega (arith, length-bits_of words count) in
    bit-is words count i d low ∙ (none_is_set words n i is ∙ sym (get_or-replicate count i false d low))))

-- a change of one bit leaves the others
other_stays : (words : List ℕ) (i v j : ℕ) → i / 64 < length words → ((k : ℕ) → k < 64 → k ≢ i % 64 → bit_at v k ≡ bit_at (get_or words (i / 64) 0) k) → j ≢ i → is_set (set words (i / 64) v) j ≡ is_set words j
other_stays words i v j within others other = elim (cases_eq (j / 64) (i / 64)) [
  | inl word ↦
      (let read : get_or (set words (i / 64) v) (i / 64) 0 ≡ v = rw get_or-set_same refl in
      let there : get_or (set words (i / 64) v) (j / 64) 0 ≡ v = ap (λ (k : ℕ). get_or (set words (i / 64) v) k 0) word ∙ read in
      let apart : j % 64 ≢ i % 64 = λ e. other (omega arith) in
      let was : get_or words (i / 64) 0 ≡ get_or words (j / 64) 0 = ap (λ (k : ℕ). get_or words k 0) (sym word) in
      ap (λ (w : ℕ). eqb (bit_at w (j % 64)) 1) there ∙ ap (λ (n : ℕ). eqb n 1) (others (j % 64) (omega arith) apart ∙ ap (λ (w : ℕ). bit_at w (j % 64)) was))
  | inr away ↦ (let there : get_or (set words (i / 64) v) (j / 64) 0 ≡ get_or words (j / 64) 0 = rw get_or-set_other refl in ap (λ (w : ℕ). eqb (bit_at w (j % 64)) 1) there)
]

pub clean-put : (words : List ℕ) (count i v : ℕ) → ((j : ℕ) → count ≤ j → is_set words j ≡ false) → count < 64 * length words → i < count → ((k : ℕ) → k < 64 → k ≢ i % 64 → bit_at v k ≡ bit_at (get_or words (i / 64) 0) k) → (j : ℕ) → count ≤ j → is_set (set words (i / 64) v) j ≡ false
clean-put words count i v clean room low others j past = other_stays words i v j (omega arith) others (λ same. absurd (omega arith)) ∙ clean j past

-- one flag is changed
pub bits-put : (words : List ℕ) (count i v : ℕ) (b : Bool) → count < 64 * length words → i < count → eqb (bit_at v (i % 64)) 1 ≡ b → ((k : ℕ) → k < 64 → k ≢ i % 64 → bit_at v k ≡ bit_at (get_or words (i / 64) 0) k) → bits_of (set words (i / 64) v) count ≡ set (bits_of words count) i b
bits-put words count i v b room low own others =
    let within : i / 64 < length words = omega arith in
    same_lists (bits_of (set words (i / 64) v) count) (set (bits_of words count) i b) (length-bits_of (set words (i / 64) v) count ∙ sym (length-set (bits_of words count) i b ∙ length-bits_of words count)) (λ j d h.
    (let short : j < count = omega (arith, length-bits_of (set words (i / 64) v) count) in
    bit-is (set words (i / 64) v) count j d short ∙ elim (cases_eq j i) [
      | inl same ↦
          (let read : get_or (set words (i / 64) v) (i / 64) 0 ≡ v = rw get_or-set_same refl in
          let long : i < length (bits_of words count) = omega (arith, length-bits_of words count) in
          let here : get_or (set (bits_of words count) i b) i d ≡ b = rw get_or-set_same refl in
          let value : is_set (set words (i / 64) v) i ≡ b = ap (λ (w : ℕ). eqb (bit_at w (i % 64)) 1) read ∙ own in
          subst (λ (k : ℕ). is_set (set words (i / 64) v) k ≡ get_or (set (bits_of words count) i b) k d) (sym same) (value ∙ sym here))
      | inr other ↦
          (let kept : get_or (set (bits_of words count) i b) j d ≡ get_or (bits_of words count) j d = rw get_or-set_other refl in
          other_stays words i v j within others other ∙ (sym (bit-is words count j d short) ∙ sym kept))
    ]))

shifted : (n a k : ℕ) → bit_at (n / 2 ^ a) k ≡ bit_at n (a + k)
shifted n a k = ap (λ (m : ℕ). m % 2) (div-div-eq-div-mul n (2 ^ a) (2 ^ k) ∙ ap (λ (p : ℕ). n / p) (sym (pow-add 2 a k)))

-- the flag at a place from `from` on in its word
word_flag : (words : List ℕ) (count from i : ℕ) (rest : ℕ) → rest ≡ get_or words (from / 64) 0 / 2 ^ (from % 64) → from ≤ i → i < 64 * (from / 64 + 1) → i < count → bit_at rest (i - from) ≡ 0 → get_or (bits_of words count) i false ≡ false
word_flag words count from i rest is low high within off =
    let word : i / 64 ≡ from / 64 = omega arith in
    let place : from % 64 + (i - from) ≡ i % 64 = omega arith in
    let bit : bit_at (get_or words (i / 64) 0) (i % 64) ≡ 0 =
    ap (λ (k : ℕ). bit_at (get_or words k 0) (i % 64)) word ∙ (ap (bit_at (get_or words (from / 64) 0)) (sym place) ∙ (sym (shifted (get_or words (from / 64) 0) (from % 64) (i - from)) ∙ (ap (λ (n : ℕ). bit_at n (i - from)) (sym is) ∙ off))) in
    bit-is words count i false within ∙ ap (λ (n : ℕ). eqb n 1) bit

pub none_up_to : (words : List ℕ) (count from to : ℕ) (rest : ℕ) → rest ≡ get_or words (from / 64) 0 / 2 ^ (from % 64) → to ≤ 64 * (from / 64 + 1) → ((k : ℕ) → from + k < count → from + k < to → bit_at rest k ≡ 0) → HasNoneBetween (bits_of words count) from to
none_up_to words count from to rest is high off i low below = elim (cases_lt i count) [
  | inl within ↦ word_flag words count from i rest is low (omega arith) within (off (i - from) (omega arith) (omega arith))
  | inr past ↦ bit-past words count i past
]

place_is_set : (words : List ℕ) (from k : ℕ) (rest : ℕ) → rest ≡ get_or words (from / 64) 0 / 2 ^ (from % 64) → from % 64 + k < 64 → bit_at rest k ≡ 1 → is_set words (from + k) ≡ true
place_is_set words from k rest is high on =
    let word : (from + k) / 64 ≡ from / 64 = omega arith in
    let place : from % 64 + k ≡ (from + k) % 64 = omega arith in
    let bit : bit_at (get_or words ((from + k) / 64) 0) ((from + k) % 64) ≡ 1 =
    ap (λ (j : ℕ). bit_at (get_or words j 0) ((from + k) % 64)) word ∙ (ap (bit_at (get_or words (from / 64) 0)) (sym place) ∙ (sym (shifted (get_or words (from / 64) 0) (from % 64) k) ∙ (ap (λ (n : ℕ). bit_at n k) (sym is) ∙ on))) in
    ap (λ (n : ℕ). eqb n 1) bit

-- a bit that is set is a flag
is_within : (words : List ℕ) (count i : ℕ) → ((j : ℕ) → count ≤ j → is_set words j ≡ false) → is_set words i ≡ true → i < count
is_within words count i clean on = elim (cases_lt i count) [
  | inl within ↦ within
  | inr past ↦ absurd (let e : true ≡ false = sym on ∙ clean i past in let nothing : ⊥ = cc in nothing)
]

pub found : (words : List ℕ) (count from k : ℕ) (rest : ℕ) → ((j : ℕ) → count ≤ j → is_set words j ≡ false) → rest ≡ get_or words (from / 64) 0 / 2 ^ (from % 64) → from % 64 + k < 64 → bit_at rest k ≡ 1 → (from + k < count) × (get_or (bits_of words count) (from + k) false ≡ true)
found words count from k rest clean is high on =
    let flag = place_is_set words from k rest is high on in
    let within = is_within words count (from + k) clean flag in (within, bit-is words count (from + k) false within ∙ flag)

-- the lowest bit that is set from a place on lies in the word
pub lowest_place : (n a : ℕ) → n < 2 ^ 64 → a < 64 → (n / 2 ^ a ≡ 0 → ⊥) → (a + trailing_zeros w64 (n / 2 ^ a) < 64) × (bit_at (n / 2 ^ a) (trailing_zeros w64 (n / 2 ^ a)) ≡ 1) × ((k : ℕ) → k < trailing_zeros w64 (n / 2 ^ a) → bit_at (n / 2 ^ a) k ≡ 0)
lowest_place n a fits low some =
    let rest = n / 2 ^ a in
    let small : rest ≤ n = div-le_self n (2 ^ a) in
    let positive : 0 < rest = elim (cases_lt 0 rest) [ inl yes' ↦ yes' | inr isnt ↦ absurd (some (omega arith)) ] in
    let lowest = bit_at-trailing_zeros w64 rest positive (omega arith) in
    let t = trailing_zeros w64 rest in (
      elim (cases_lt (a + t) 64) [
        | inl within ↦ within
        | inr past ↦ absurd (let off : bit_at rest t ≡ 0 = shifted n a t ∙ bit_at_above n 64 (a + t) fits past in let on = lowest.1 in omega arith)
      ],
      lowest.1,
      lowest.2,
    )

pub word_is_zero : (words : List ℕ) (count i : ℕ) → get_or words (i / 64) 0 ≡ 0 → get_or (bits_of words count) i false ≡ false
word_is_zero words count i none = elim (cases_lt i count) [
  | inl within ↦ bit-is words count i false within ∙ zero_word words i none
  | inr past ↦ bit-past words count i past
]

pub word_is_not_zero : (words : List ℕ) (count i : ℕ) → ((j : ℕ) → count ≤ j → is_set words j ≡ false) → get_or words (i / 64) 0 < 2 ^ 64 → (get_or words (i / 64) 0 ≡ 0 → ⊥) → HasMember (bits_of words count) (i / 64)
word_is_not_zero words count i clean fits some =
    let word = get_or words (i / 64) 0 in
    let positive : 0 < word = elim (cases_lt 0 word) [ inl yes' ↦ yes' | inr isnt ↦ absurd (some (omega arith)) ] in
    let lowest = bit_at-trailing_zeros w64 word positive fits in
    let t = trailing_zeros w64 word in
    let j = 64 * (i / 64) + t in
    let small : t < 64 = lowest.0 in
    let group : j / 64 ≡ i / 64 = omega arith in
    let place : j % 64 ≡ t = omega arith in
    let on : is_set words j ≡ true = ap (λ (n : ℕ). eqb n 1) (ap (λ (k : ℕ). bit_at (get_or words k 0) (j % 64)) group ∙ (ap (bit_at word) place ∙ lowest.1)) in (j, group, bit-is words count j false (is_within words count j clean on) ∙ on)
