use Rattle.std.proofs.Common.{◌∙◌, ◌≤◌, length, sym, arith}
use Rattle.pb_read.proofs.WordCuts.{word_at}
use Rattle.pb_read.proofs.dimacs.word.word_len.Goals as goal

pub returns-else-not-is_blank-clause-word : goal.returns-else-not-is_blank-clause-word
returns-else-not-is_blank-clause-word c =
    word_at c.args.bytes.now c.loop-len.len c.loop-len.invariant.positive c.loop-len.invariant.within c.loop-len.invariant.so_far (λ lt. sym c.is_blank.ensures ∙ c.if-not-is_blank.false)

pub returns-after-loop-len-clause-word : goal.returns-after-loop-len-clause-word
returns-after-loop-len-clause-word c =
    let past : length c.args.bytes.now ≤ c.loop-len.len = c.loop-len-test.false in
    word_at c.args.bytes.now c.loop-len.len c.loop-len.invariant.positive c.loop-len.invariant.within c.loop-len.invariant.so_far (λ lt. absurd (omega arith))
