use Rattle.std.proofs.Common.{All, take}
use Rattle.pb_inst.specs.Literal.{Literal}
use Rattle.pb_clique.specs.Cliques.{Covers}
use Rattle.pb_clique.proofs.cliques.covers_all.Given as goal

-- the literal has a clause with each so far
abbrev pub invariant-loop-other : goal.invariant-loop-other
invariant-loop-other l = All (λ (other : Literal). Covers l.arcs other l.lit) (take l.other-index l.clique)
