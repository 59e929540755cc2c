use Rattle.std.proofs.Common.{◌≡◌, length}
use Rattle.pb_read.specs.TokenCuts.{after_word}
use Rattle.pb_read.proofs.opb.token.after_word.Given as goal

abbrev pub invariant-loop-rest : goal.invariant-loop-rest
invariant-loop-rest l = after_word l.bytes ≡ after_word l.rest

abbrev pub decreases-loop-rest : goal.decreases-loop-rest
decreases-loop-rest l = length l.rest
