use Rattle.std.specs.Prelude.{is_some}
use Rattle.pbcube_task.proofs.Claiming.{claims_as}
use Rattle.pbcube_task.proofs.searching.search_with_notes.Goals as goal

pub returns-clause-answer : goal.returns-clause-answer
returns-clause-answer g c =
    let line = c.args.line.now in
    let answer = c.in_ok-answer.answer in
    claims_as c.args.prepared.now.instance c.args.prepared.now.pieces line.task line.tasks (is_some line.exchange) answer.done.items answer.cut.items answer.best.held c.requires.exchange c.in_ok-answer.ensures.answer
