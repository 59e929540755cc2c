use Rattle.std.proofs.Common.{◌≡◌, ◌+◌, take}
use Rattle.pb_trail.specs.Trail.{reached}
use Rattle.pb_dual.specs.Saturation.{capped}
use Rattle.pb_dual.proofs.multipliers.Multipliers.degree_beside.Given as goal

abbrev pub invariant-loop-term : goal.invariant-loop-term
invariant-loop-term g l = l.degree ≡ l.most + reached l.self.trail (capped l.most (take l.term-index l.term-items))
