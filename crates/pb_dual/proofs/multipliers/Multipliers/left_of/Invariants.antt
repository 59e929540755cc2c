use Rattle.std.proofs.Common.{◌≡◌, ◌-◌, take}
use Rattle.pb_trail.specs.Trail.{reached}
use Rattle.pb_dual.proofs.multipliers.Multipliers.left_of.Given as goal

abbrev pub invariant-loop-term : goal.invariant-loop-term
invariant-loop-term g l = l.left ≡ l.initial.left - reached l.self.trail (take l.term-index l.term-items)
