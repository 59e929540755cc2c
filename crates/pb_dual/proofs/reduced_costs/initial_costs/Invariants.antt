use Rattle.std.proofs.Common.{take}
use Rattle.pb_dual.proofs.StartLemmas.{AreStarting}
use Rattle.pb_dual.proofs.reduced_costs.initial_costs.Given as goal

abbrev pub invariant-loop-term : goal.invariant-loop-term
invariant-loop-term g l = AreStarting l.form.vars g.C.Coefficient.origin l.scale (take l.term-index l.term-items) l.costs.items
