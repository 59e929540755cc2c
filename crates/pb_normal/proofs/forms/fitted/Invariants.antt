use Rattle.std.proofs.Common.{◌≡◌, take}
use Rattle.pb_normal.proofs.forms.fitted.Given as goal

abbrev pub invariant-loop-term : goal.invariant-loop-term
invariant-loop-term g l = l.fitted.items ≡ take l.term-index l.terms
