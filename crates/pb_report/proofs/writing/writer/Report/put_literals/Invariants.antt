use Rattle.std.proofs.Common.{take}
use Rattle.pb_report.specs.Sending.{Adds}
use Rattle.pb_report.specs.Written.{literals}
use Rattle.pb_report.proofs.writing.writer.Report.put_literals.Given as goal

-- the literals of the values so far were added
abbrev pub invariant-loop-place : goal.invariant-loop-place
invariant-loop-place g l = Adds g.W.Write.contents l.fn.self l.self (literals l.format 1 (take l.place l.values))
