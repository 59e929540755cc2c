use Rattle.std.proofs.Common.{subst}
use Rattle.pb_workers.specs.Parts.{AreDone}
use Rattle.pb_workers.proofs.part.Part.pieces.Goals as goal

pub returns-clause-done : goal.returns-clause-done
returns-clause-done c = subst AreDone c.self.view_is c.self.invariant.0
