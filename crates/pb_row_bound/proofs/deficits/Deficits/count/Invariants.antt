use Rattle.std.proofs.Common.{◌-◌, length}
use Rattle.pb_row_bound.specs.Deficits.{AreDeficits}
use Rattle.pb_row_bound.proofs.deficits.Deficits.count.Given as goal

abbrev pub invariant-loop-self : goal.invariant-loop-self
invariant-loop-self g l = AreDeficits g.C.Coefficient.limit l.trail.form l.trail.rows l.trail.trail l.self

abbrev pub decreases-loop-self : goal.decreases-loop-self
decreases-loop-self g l = length l.trail.trail - l.self.counted
