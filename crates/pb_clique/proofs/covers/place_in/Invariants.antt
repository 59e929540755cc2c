use Rattle.std.specs.Bool.{⊤}
use Rattle.pb_clique.proofs.covers.place_in.Given as goal

abbrev pub invariant-loop-place : goal.invariant-loop-place
invariant-loop-place l = ⊤
