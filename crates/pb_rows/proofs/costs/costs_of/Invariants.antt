use Rattle.pb_rows.specs.Costs.{AreCosts}
use Rattle.std.proofs.Common.{take}
use Rattle.pb_rows.proofs.costs.costs_of.Given as goal

abbrev pub invariant-loop-term : goal.invariant-loop-term
invariant-loop-term g l = AreCosts l.vars (take l.term-index l.objective) l.costs.items
