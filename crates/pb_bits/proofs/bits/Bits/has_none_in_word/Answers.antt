use Rattle.std.proofs.Common.{◌≡◌, ◌/◌, ◌<◌, ℕ, List, Bool, false, length, get_or, ap, subst, ◌∙◌, arith}
use Rattle.std.proofs.lemmas.Bool.{eqb-true, eqb-false}
use Rattle.std.proofs.lemmas.List.{get_or_read}
use Rattle.pb_bits.specs.RowSet.{HasMember}
use Rattle.pb_bits.proofs.BitLemmas.{length-bits_of, word_is_zero, word_is_not_zero}
use Rattle.pb_bits.proofs.bits.Bits.has_none_in_word.Goals as goal

pub index-requires : goal.index-requires
index-requires c =
    let view = ap (λ (fs : List Bool). length fs) c.self.view_is in
    omega (arith, length-bits_of c.self.inside.words.items c.self.inside.count, c.self.invariant.room, c.self.inside.words.ok.0, c.requires)

pub returns-clause-none : goal.returns-clause-none
returns-clause-none c = λ none i same.
    let words = c.self.inside.words.items in
    let count = c.self.inside.count in
    let view = ap (λ (fs : List Bool). length fs) c.self.view_is in
    let low : c.args.index < count = omega (arith, length-bits_of words count, c.requires) in
    let read : c.index.result.now ≡ get_or words (c.args.index / 64) 0 = get_or_read words (c.args.index / 64) c.index.result.now (omega (arith, c.self.invariant.room)) c.index.ensures 0 in
    let nought = eqb-true c.index.result.now 0 none in
    subst (λ (fs : List Bool). get_or fs i false ≡ false) c.self.view_is (word_is_zero words count i (ap (λ (k : ℕ). get_or words k 0) same ∙ omega arith))

pub returns-clause-some : goal.returns-clause-some
returns-clause-some c = λ some.
    let words = c.self.inside.words.items in
    let count = c.self.inside.count in
    let view = ap (λ (fs : List Bool). length fs) c.self.view_is in
    let low : c.args.index < count = omega (arith, length-bits_of words count, c.requires) in
    let read : c.index.result.now ≡ get_or words (c.args.index / 64) 0 = get_or_read words (c.args.index / 64) c.index.result.now (omega (arith, c.self.invariant.room)) c.index.ensures 0 in
    subst (λ (fs : List Bool). HasMember fs (c.args.index / 64)) c.self.view_is (word_is_not_zero words count c.args.index c.self.invariant.clean (omega arith) (λ none. eqb-false c.index.result.now 0 some (omega arith)))
