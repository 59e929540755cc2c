use Rattle.std.proofs.Common.{◌≡◌, ℕ, ◌<◌, ◌≤◌, length, get_or}
use Rattle.pb_inst.specs.Literal.{Literal}
use Rattle.pb_cubes.specs.Split.{numbered_cube}
use Rattle.pb_cubes.proofs.splits.cube_of_number.Given as goal

abbrev pub invariant-loop-i : goal.invariant-loop-i
invariant-loop-i l = ((j : ℕ) (d : Literal) → j < l.i → get_or l.lits j d ≡ get_or (numbered_cube l.variables l.number) j d) × (length l.variables ≤ length l.lits)
