use Rattle.pb_normal.proofs.RowLemmas.{RowsSoFar}
use Rattle.pb_normal.proofs.forms.form_of.Given as goal

abbrev pub invariant-loop-i : goal.invariant-loop-i
invariant-loop-i g l = RowsSoFar l.instance.vars l.instance.constraints l.i l.rows
