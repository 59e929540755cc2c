use Rattle.std.proofs.Common.{◌≡◌, ◌++◌, take, map}
use Rattle.pb_clique.specs.Cliques.{all_but_one}
use Rattle.pb_clique.proofs.merging.put_cliques.Given as goal

-- the constraints of the cliques so far were added
abbrev pub invariant-loop-i : goal.invariant-loop-i
invariant-loop-i l = record {
  objective : l.builder.objective ≡ l.fn.builder.objective;
  added : l.builder.constraints ≡ l.fn.builder.constraints ++ map all_but_one (take l.i l.cliques);
}
