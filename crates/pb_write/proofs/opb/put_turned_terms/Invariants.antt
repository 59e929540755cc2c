use Rattle.std.proofs.Common.{take, map}
use Rattle.pb_write.specs.Text.{terms_text}
use Rattle.pb_write.specs.Turned.{turned_term}
use Rattle.pb_write.specs.Written.{Adds}
use Rattle.pb_write.proofs.opb.put_turned_terms.Given as goal

-- the terms so far were written with their coefficients negated
abbrev pub invariant-loop-i : goal.invariant-loop-i
invariant-loop-i g l = Adds g.W.Write.contents l.fn.out l.out (terms_text (map turned_term (take l.i l.terms)))
