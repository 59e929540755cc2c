use Rattle.std.proofs.Common.{◌≡◌, All}
use Rattle.pb_clique.specs.Cliques.{IsClique}
use Rattle.pb_clique.proofs.cliques.find_cliques.Given as goal

-- those that were found are cliques
abbrev pub invariant-loop-place : goal.invariant-loop-place
invariant-loop-place l = record {
  same : l.arcs ≡ l.fn.arcs;
  cliques : All (IsClique l.arcs) l.cliques;
}
