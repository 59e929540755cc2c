use Rattle.std.proofs.Common.{◌≡◌, take, map}
use Rattle.pb_inst.specs.Constraints.{unit_term}
use Rattle.pb_clique.proofs.merging.put_units.Given as goal

-- the terms so far are those of the literals so far
abbrev pub invariant-loop-lit : goal.invariant-loop-lit
invariant-loop-lit l = l.room.items ≡ map unit_term (take l.lit-index l.lits)
