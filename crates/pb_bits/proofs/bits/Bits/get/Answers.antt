use Rattle.std.proofs.Common.{◌≡◌, ◌/◌, ◌%◌, ◌<◌, ℕ, List, Bool, false, length, get_or, ap, sym, ◌∙◌, arith, eqb}
use Rattle.std.specs.Int.{bit_at}
use Rattle.std.proofs.lemmas.List.{get_or_read}
use Rattle.std.proofs.lemmas.Nat.Bits.{shr_and_one}
use Rattle.pb_bits.proofs.BitLemmas.{length-bits_of, bit-is}
use Rattle.pb_bits.proofs.bits.Bits.get.Goals as goal

pub index-requires : goal.index-requires
index-requires c =
    let view = ap (λ (fs : List Bool). length fs) c.self.view_is in
    omega (arith, length-bits_of c.self.inside.words.items c.self.inside.count, c.self.invariant.room, c.self.inside.words.ok.0, c.requires)

pub returns : goal.returns
returns c =
    let words = c.self.inside.words.items in
    let count = c.self.inside.count in
    let i = c.args.index in
    let view = ap (λ (fs : List Bool). length fs) c.self.view_is in
    let low : i < count = omega (arith, length-bits_of words count, c.requires) in
    let read : c.index.result.now ≡ get_or words (i / 64) 0 = get_or_read words (i / 64) c.index.result.now (omega (arith, c.self.invariant.room)) c.index.ensures 0 in
    ap (λ (n : ℕ). eqb n 1) (shr_and_one c.index.result.now (i % 64) ∙ ap (λ (w : ℕ). bit_at w (i % 64)) read) ∙ (sym (bit-is words count i false low) ∙ ap (λ (fs : List Bool). get_or fs i false) c.self.view_is)
