use Rattle.std.proofs.Common.{◌≡◌, ◌++◌, List, length}
use Rattle.pb_read.specs.Text.{Placed}
use Rattle.pb_read.specs.Opb as opb
use Rattle.pb_read.proofs.opb.sink.take_line.Given as goal

-- the tokens seen so far were taken, and those of the rest are left
abbrev pub invariant-loop-token : goal.invariant-loop-token
invariant-loop-token g l =
    (taken : List (Placed opb.Token)) → g.S.TokenSink.has_taken l.fn.sink taken
    → (seen : List opb.Token) × (seen ++ opb.line_tokens l.rest ≡ opb.line_tokens l.line) × g.S.TokenSink.has_taken l.sink (taken ++ opb.placed l.number seen)

abbrev pub decreases-loop-token : goal.decreases-loop-token
decreases-loop-token g l = length (opb.line_tokens l.rest)
