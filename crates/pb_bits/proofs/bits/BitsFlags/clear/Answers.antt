use Rattle.std.proofs.Common.{◌≡◌, ◌*◌, ◌/◌, ◌%◌, ◌^◌, ◌<◌, ℕ, List, Bool, false, length, get_or, set, length-set, ap, ◌∙◌, arith}
use Rattle.std.specs.Int.{bit_at, bit_not, w64}
use Rattle.std.specs.Prelude.{bit_and, nat_eq}
use Rattle.std.proofs.lemmas.List.{get_or_read}
use Rattle.std.proofs.lemmas.Nat.Bits.{bit_at_clear_same, bit_at_clear_other}
use Rattle.pb_bits.proofs.BitLemmas.{bits-put, clean-put, length-bits_of}
use Rattle.pb_bits.proofs.bits.BitsFlags.clear.Goals as goal

pub index_mut-requires : goal.index_mut-requires
index_mut-requires c =
    let low = ap (λ (fs : List Bool). length fs) c.self.view_is in
    omega (arith, length-bits_of c.self.inside.words.items c.self.inside.count, c.self.invariant.room, c.self.inside.words.ok.0, c.requires)

pub returns : goal.returns
returns c =
    let words = c.self.inside.words.items in
    let count = c.self.inside.count in
    let i = c.args.index in
    let view = ap (λ (fs : List Bool). length fs) c.self.view_is in
    let low : i < count = omega (arith, length-bits_of words count, c.requires) in
    let read : c.index_mut.result.now ≡ get_or words (i / 64) 0 = get_or_read words (i / 64) c.index_mut.result.now (omega (arith, c.self.invariant.room)) c.index_mut.ensures.value 0 in
    let old = c.index_mut.result.now in
    bits-put words count i (bit_and old (bit_not w64 (1 * 2 ^ (i % 64) % 2 ^ 64))) false c.self.invariant.room low (ap (λ (n : ℕ). nat_eq n 1) (bit_at_clear_same w64 old (i % 64) (omega arith)))
    (λ k within other. bit_at_clear_other w64 old (i % 64) (omega arith) k within other ∙ ap (λ (n : ℕ). bit_at n k) read)
    ∙ ap (λ (fs : List Bool). set fs i false) c.self.view_is

pub invariant_of-self : goal.invariant_of-self
invariant_of-self c =
    let words = c.self.inside.words.items in
    let count = c.self.inside.count in
    let i = c.args.index in
    let view = ap (λ (fs : List Bool). length fs) c.self.view_is in
    let low : i < count = omega (arith, length-bits_of words count, c.requires) in
    let read : c.index_mut.result.now ≡ get_or words (i / 64) 0 = get_or_read words (i / 64) c.index_mut.result.now (omega (arith, c.self.invariant.room)) c.index_mut.ensures.value 0 in
    let old = c.index_mut.result.now in
    let new = bit_and old (bit_not w64 (1 * 2 ^ (i % 64) % 2 ^ 64)) in
    record {
      room = omega (arith, c.self.invariant.room, length-set words (i / 64) new);
      small = c.self.invariant.small;
      clean = clean-put words count i new c.self.invariant.clean c.self.invariant.room low (λ k within other. bit_at_clear_other w64 old (i % 64) (omega arith) k within other ∙ ap (λ (n : ℕ). bit_at n k) read);
    }
