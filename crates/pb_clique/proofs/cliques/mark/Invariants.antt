use Rattle.std.proofs.Common.{◌≡◌}
use Rattle.pb_clique.proofs.cliques.mark.Given as goal

abbrev pub invariant-loop-lit : goal.invariant-loop-lit
invariant-loop-lit l = l.arcs ≡ l.fn.arcs
