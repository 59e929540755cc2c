use Rattle.std.proofs.Common.{◌≡◌, take}
use Rattle.pb_clique.specs.Cliques.{Keeps}
use Rattle.pb_clique.proofs.merging.put_kept.Given as goal

-- what was kept so far says the same as all constraints so far
abbrev pub invariant-loop-i : goal.invariant-loop-i
invariant-loop-i l = record {
  objective : l.builder.objective ≡ l.fn.builder.objective;
  kept : Keeps l.cliques (take l.i l.instance.constraints) l.builder.constraints;
}
