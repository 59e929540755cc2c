use Rattle.std.proofs.Common.{◌≡◌, map}
use Rattle.std.specs.Vec.{vec_len, vec_capacity}
use Rattle.std.specs.List.{range_with_len}
use Rattle.pb_cubes.specs.Split.{numbered_cube}
use Rattle.pb_cubes.proofs.splits.cubes_over.Given as goal

abbrev pub invariant-loop-number : goal.invariant-loop-number
invariant-loop-number l = (l.cubes.items ≡ map (numbered_cube l.variables) (range_with_len 0 l.number)) × (vec_len l.cubes ≡ l.number) × (vec_capacity l.cubes ≡ l.number_of_cubes)
