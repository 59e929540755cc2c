use Rattle.std.proofs.Common.{◌≡◌, ◌+◌, ◌*◌, ◌/◌, ◌%◌, ◌^◌, ◌<◌, ◌≤◌, ℕ, List, Bool, true, false, Option, Some, length, get_or, ap, subst, ◌∙◌, arith}
use Rattle.std.specs.Int.{bit_at, w64, trailing_zeros}
use Rattle.std.proofs.lemmas.List.{get_or_read}
use Rattle.std.proofs.lemmas.Nat.Bits.{bit_at-zero}
use Rattle.pb_bits.specs.Bits.{bits_of}
use Rattle.pb_bits.specs.RowSet.{HasNoneBetween}
use Rattle.pb_bits.proofs.BitLemmas.{length-bits_of, none_up_to, found, lowest_place}
use Rattle.pb_bits.proofs.bits.Bits.next_in_word.Goals as goal

pub index-word-requires : goal.index-word-requires
index-word-requires c =
    let view = ap (λ (fs : List Bool). length fs) c.self.view_is in
    omega (arith, length-bits_of c.self.inside.words.items c.self.inside.count, c.self.invariant.room, c.self.inside.words.ok.0, c.requires)

pub returns-then-rest-eq0-clause-none : goal.returns-then-rest-eq0-clause-none
returns-then-rest-eq0-clause-none c = λ none.
    let words = c.self.inside.words.items in
    let count = c.self.inside.count in
    let from = c.args.from in
    let view = ap (λ (fs : List Bool). length fs) c.self.view_is in
    let long = length-bits_of words count in
    let low : from < count = omega (arith, c.requires) in
    let read : c.index-word.result.now ≡ get_or words (from / 64) 0 = get_or_read words (from / 64) c.index-word.result.now (omega (arith, c.self.invariant.room)) c.index-word.ensures 0 in
    let rest = c.index-word.result.now / 2 ^ (from % 64) in
    let is : rest ≡ get_or words (from / 64) 0 / 2 ^ (from % 64) = ap (λ (n : ℕ). n / 2 ^ (from % 64)) read in
    subst (λ (fs : List Bool). HasNoneBetween fs from (64 * (from / 64 + 1))) c.self.view_is (none_up_to words count from (64 * (from / 64 + 1)) rest is (omega arith) (λ k within below. ap (λ (n : ℕ). bit_at n k) c.if-rest-eq0.true ∙ bit_at-zero k))

pub overflow_add-result : goal.overflow_add-result
overflow_add-result c =
    let words = c.self.inside.words.items in
    let count = c.self.inside.count in
    let from = c.args.from in
    let view = ap (λ (fs : List Bool). length fs) c.self.view_is in
    let long = length-bits_of words count in
    let low : from < count = omega (arith, c.requires) in
    let read : c.index-word.result.now ≡ get_or words (from / 64) 0 = get_or_read words (from / 64) c.index-word.result.now (omega (arith, c.self.invariant.room)) c.index-word.ensures 0 in
    let rest = c.index-word.result.now / 2 ^ (from % 64) in
    let is : rest ≡ get_or words (from / 64) 0 / 2 ^ (from % 64) = ap (λ (n : ℕ). n / 2 ^ (from % 64)) read in
    let place = lowest_place c.index-word.result.now (from % 64) (omega arith) (omega arith) c.if-rest-eq0.false in
    let t = trailing_zeros w64 rest in
    let flag = found words count from t rest c.self.invariant.clean is place.0 place.1 in
    omega (arith, c.self.invariant.small, flag.0)

same_index : (a b : ℕ) → ◌≡◌ {A = Option ℕ} (Some a) (Some b) → a ≡ b
same_index a b h = cc

pub returns-clause-some : goal.returns-clause-some
returns-clause-some c = λ index chosen.
    let words = c.self.inside.words.items in
    let count = c.self.inside.count in
    let from = c.args.from in
    let view = ap (λ (fs : List Bool). length fs) c.self.view_is in
    let long = length-bits_of words count in
    let low : from < count = omega (arith, c.requires) in
    let read : c.index-word.result.now ≡ get_or words (from / 64) 0 = get_or_read words (from / 64) c.index-word.result.now (omega (arith, c.self.invariant.room)) c.index-word.ensures 0 in
    let rest = c.index-word.result.now / 2 ^ (from % 64) in
    let is : rest ≡ get_or words (from / 64) 0 / 2 ^ (from % 64) = ap (λ (n : ℕ). n / 2 ^ (from % 64)) read in
    let place = lowest_place c.index-word.result.now (from % 64) (omega arith) (omega arith) c.if-rest-eq0.false in
    let t = trailing_zeros w64 rest in
    let flag = found words count from t rest c.self.invariant.clean is place.0 place.1 in
    let at : from + t ≡ index = same_index (from + t) index chosen in
    let P : List Bool → ℕ → Type 0 = λ fs k. (from ≤ k) × (k < length fs) × (get_or fs k false ≡ true) × HasNoneBetween fs from k in
    let here : P (bits_of words count) (from + t) = (omega arith, omega (arith, flag.0), flag.1, none_up_to words count from (from + t) rest is (omega (arith, place.0)) (λ k within below. place.2 k (omega arith))) in
    subst (λ (fs : List Bool). P fs index) c.self.view_is (subst (P (bits_of words count)) at here)
