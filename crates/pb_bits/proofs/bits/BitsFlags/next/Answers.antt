use Rattle.std.proofs.Common.{refl}
use Rattle.pb_bits.proofs.RowSetLemmas.{still_next}
use Rattle.pb_bits.proofs.bits.BitsFlags.next.Goals as goal

pub returns-in-Some-clause-some : goal.returns-in-Some-clause-some
returns-in-Some-clause-some c = λ x chosen. still_next c.args.self.now c.args.from c.loop-place.place c.in-Some.index x c.loop-place.invariant.low c.loop-place.invariant.none (c.in-Some.ensures.some c.in-Some.index refl) chosen
