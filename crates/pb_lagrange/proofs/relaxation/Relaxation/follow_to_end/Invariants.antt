use Rattle.std.proofs.Common.{◌≡◌, ◌-◌, length}
use Rattle.pb_lagrange.specs.Relaxation.{IsBeside}
use Rattle.pb_lagrange.proofs.relaxation.Relaxation.follow_to_end.Given as goal

abbrev pub invariant-loop-self : goal.invariant-loop-self
invariant-loop-self g l = record {
  beside : IsBeside l.trail.form l.trail.trail l.self;
  form : l.self.form ≡ l.initial.self.form;
}

abbrev pub decreases-loop-self : goal.decreases-loop-self
decreases-loop-self g l = length l.trail.trail - length l.self.trail
