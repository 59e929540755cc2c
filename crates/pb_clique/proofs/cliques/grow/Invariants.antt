use Rattle.pb_clique.specs.Cliques.{IsClique}
use Rattle.pb_clique.proofs.cliques.grow.Given as goal

-- what has grown so far is a clique
abbrev pub invariant-loop-place : goal.invariant-loop-place
invariant-loop-place l = IsClique l.arcs l.clique.items
