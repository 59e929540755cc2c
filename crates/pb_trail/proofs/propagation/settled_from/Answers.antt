use Rattle.std.proofs.Common.{arith, refl}
use Rattle.pb_trail.specs.Propagation.{nothing}
use Rattle.pb_trail.proofs.CompletionLemmas.{length-AddsForced}
use Rattle.pb_trail.proofs.propagation.settled_from.Goals as goal

pub returns-in-Some-clause-forced : goal.returns-in-Some-clause-forced
returns-in-Some-clause-forced g c = nothing

pub returns-in-Fixed-clause-settled : goal.returns-in-Fixed-clause-settled
returns-in-Fixed-clause-settled g c = (
  omega (arith, c.len-start.ensures.length, length-AddsForced c.args.tables.now.rows c.args.trail.now.lits c.propagate_every_row.new.trail.lits c.propagate_every_row.ensures.forced),
  λ r exists. c.in-Fixed.ensures.settled refl r c.len-start.result exists (omega (arith, c.len-start.ensures.length)),
)
