use Rattle.std.proofs.Common.{take}
use Rattle.pb_write.specs.Text.{terms_text}
use Rattle.pb_write.specs.Written.{Adds}
use Rattle.pb_write.proofs.opb.put_terms.Given as goal

-- the terms so far were written
abbrev pub invariant-loop-i : goal.invariant-loop-i
invariant-loop-i g l = Adds g.W.Write.contents l.fn.out l.out (terms_text (take l.i l.terms))
