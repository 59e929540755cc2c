use Rattle.std.proofs.Common.{◌-◌}
use Rattle.pb_trail.proofs.Looking.{IsPropagatedTo}
use Rattle.pb_trail.proofs.propagation.propagate_all.Given as goal

abbrev pub invariant-loop-head : goal.invariant-loop-head
invariant-loop-head g l = IsPropagatedTo l.tables l.initial.trail l.trail l.head

abbrev pub decreases-loop-head : goal.decreases-loop-head
decreases-loop-head g l = l.trail.vars - l.head
