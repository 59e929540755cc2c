use Rattle.std.proofs.Common.{◌≡◌}
use Rattle.pb_clique.proofs.cliques.mark_from.Given as goal

abbrev pub invariant-loop-to : goal.invariant-loop-to
invariant-loop-to l = l.arcs ≡ l.fn.arcs
