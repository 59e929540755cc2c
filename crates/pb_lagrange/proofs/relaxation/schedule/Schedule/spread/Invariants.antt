use Rattle.std.proofs.Common.{◌≡◌}
use Rattle.pb_lagrange.proofs.relaxation.schedule.Schedule.spread.Given as goal

abbrev pub invariant-loop-term : goal.invariant-loop-term
invariant-loop-term g l = l.self ≡ l.initial.self
