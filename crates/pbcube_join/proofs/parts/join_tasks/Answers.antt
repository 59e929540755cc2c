use Rattle.std.proofs.Common.{inl, inr}
use Rattle.std.proofs.lemmas.Result.{IfOk-weaker}
use Rattle.pbcube_join.proofs.parts.join_tasks.Goals as goal

pub returns-in-Ok-clause-joins : goal.returns-in-Ok-clause-joins
returns-in-Ok-clause-joins g c = IfOk-weaker c.join_read.result _ _ (λ end joins. inl joins) (c.join_read.ensures.joins c.args.files.now c.in-Ok.ensures.read)
