use Rattle.std.proofs.Common.{sym}
use Rattle.pb_workers.proofs.gathering.is_one_settled.Goals as goal

pub returns-then-is_settled : goal.returns-then-is_settled
returns-then-is_settled c = λ _. (c.loop-part.part-index, c.part-item.result, c.loop-part-test.true, sym c.part-item.is, c.is_settled.ensures c.if-is_settled.true)
