use Rattle.std.proofs.Common.{All}
use Rattle.pb_clique.specs.Cliques.{Covers}
use Rattle.pb_clique.specs.declared.arcs.Arc.{Arc}
use Rattle.pb_clique.proofs.arcs.unsorted_arcs.Given as goal

-- each arc so far is of a clause
abbrev pub invariant-loop-i : goal.invariant-loop-i
invariant-loop-i l = All (λ (arc : Arc). Covers l.instance arc.from arc.to) l.arcs.items
