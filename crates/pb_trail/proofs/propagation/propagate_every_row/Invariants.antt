use Rattle.std.proofs.Common.{◌<◌}
use Rattle.pb_trail.proofs.Looking.{IsLookedThrough}
use Rattle.pb_trail.proofs.propagation.propagate_every_row.Given as goal

abbrev pub invariant-loop-row : goal.invariant-loop-row
invariant-loop-row g l = IsLookedThrough l.tables l.initial.trail l.trail (λ r. r < l.row)
