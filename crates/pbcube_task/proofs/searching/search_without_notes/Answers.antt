use Rattle.std.specs.Prelude.{is_some}
use Rattle.pbcube_task.proofs.Claiming.{may_claim}
use Rattle.pbcube_task.proofs.searching.search_without_notes.Goals as goal

pub returns-clause-answer : goal.returns-clause-answer
returns-clause-answer g c =
    let line = c.args.line.now in
    let answer = c.in_ok-answer.answer in
    may_claim c.args.prepared.now.instance c.args.prepared.now.pieces line.task line.tasks (is_some line.exchange) answer.done.items answer.cut.items answer.best.held c.in_ok-answer.ensures.answer
