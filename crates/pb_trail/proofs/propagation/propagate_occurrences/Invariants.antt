use Rattle.std.proofs.Common.{◌<◌, take}
use Rattle.pb_rows.specs.Index.{total_by}
use Rattle.pb_trail.proofs.Looking.{IsLookedThrough}
use Rattle.pb_trail.proofs.propagation.propagate_occurrences.Given as goal

abbrev pub invariant-loop-occurrence : goal.invariant-loop-occurrence
invariant-loop-occurrence g l = IsLookedThrough l.tables l.initial.trail l.trail (λ r. 0 < total_by g.O.Occurs.occurrence r (take l.occurrence-index l.occurrences))
