use Rattle.std.proofs.Common.{take}
use Rattle.pb_parts.specs.Parts.{AreApart}
use Rattle.pb_parts.proofs.fitting.are_apart.Given as goal

-- the numbers so far are not among the others
abbrev pub invariant-loop-number : goal.invariant-loop-number
invariant-loop-number l = AreApart l.done (take l.number-index l.cut)
