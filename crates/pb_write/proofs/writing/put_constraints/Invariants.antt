use Rattle.std.proofs.Common.{take}
use Rattle.std.specs.Prelude.{flat_map}
use Rattle.pb_write.specs.Text.{constraint_text}
use Rattle.pb_write.specs.Written.{Adds}
use Rattle.pb_write.proofs.writing.put_constraints.Given as goal

-- the constraints so far were written
abbrev pub invariant-loop-i : goal.invariant-loop-i
invariant-loop-i g l = Adds g.W.Write.contents l.fn.out l.out (flat_map (constraint_text l.format) (take l.i l.instance.constraints))
