use Rattle.pb_workers.proofs.AloneLaws.{answer_where_done, least_where_done}
use Rattle.pb_workers.proofs.racing.settled_answer.Goals as goal

pub returns-clause-least : goal.returns-clause-least
returns-clause-least c = least_where_done c.args.pieces.now c.args.best c.requires

pub returns-clause-parts : goal.returns-clause-parts
returns-clause-parts c = answer_where_done c.args.pieces.now c.args.best c.facts_of.ensures c.requires
