use Rattle.std.proofs.Common.{arith}
use Rattle.pb_lagrange.proofs.relaxation.schedule.Schedule.take.Goals as goal

pub put-requires : goal.put-requires
put-requires c = (let there = c.next.ensures.some c.in-Some.row c.in-Some.is in omega arith)

pub returns-clause-row : goal.returns-clause-row
returns-clause-row c = (let there = c.next.ensures.some c.in-Some.row c.in-Some.is in let count = c.self.invariant in (omega arith, omega arith, omega arith))
