use Rattle.std.proofs.Common.{length, ap, arith}
use Rattle.pb_notes.proofs.NoteLemmas.{digit_added, all_added}
use Rattle.pb_notes.proofs.writing.put_digits.Goals as goal

pub loop-place-preserved : goal.loop-place-preserved
loop-place-preserved c = record {
  written = digit_added _ _ _ _ c.loop-place.place _ _ _ (omega arith) (omega arith) c.get.ensures c.digit_of.ensures c.loop-place.invariant.written c.put.ensures.written;
  len = omega (arith, c.put.ensures.len, ap length c.digit_of.ensures);
  room = omega arith;
}

pub returns-clause-written : goal.returns-clause-written
returns-clause-written c = all_added _ _ _ _ (omega arith) c.loop-place.invariant.written
