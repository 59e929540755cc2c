use Rattle.std.proofs.Common.{◌+◌, ◌*◌}
use Rattle.pb_workers.proofs.fork.+fn-fork-join+arg2+fn-fork-join+arg3+fork.Given as goal

abbrev pub decreases-join+arg2 : goal.decreases-join+arg2
decreases-join+arg2 g l = 2 * l.low.parts + 1

abbrev pub decreases-join+arg3 : goal.decreases-join+arg3
decreases-join+arg3 g l = 2 * l.high.parts + 1

abbrev pub decreases-fork : goal.decreases-fork
decreases-fork g l = 2 * l.seat.parts
