use Rattle.std.proofs.Common.{length, List, ℕ, ◌≡◌, ◌++◌}
use Rattle.pb_report.specs.Sending.{Writes}
use Rattle.pb_report.proofs.writing.writer.write_out.Given as goal

-- what was taken so far is what was written
abbrev pub invariant-loop-rest : goal.invariant-loop-rest
invariant-loop-rest g l = (done : List ℕ) × (l.fn.bytes ≡ done ++ l.rest) × Writes g.W.Write.contents l.fn.out l.out done

abbrev pub decreases-loop-rest : goal.decreases-loop-rest
decreases-loop-rest g l = length l.rest
