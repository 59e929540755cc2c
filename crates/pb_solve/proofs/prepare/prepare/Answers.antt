use Rattle.pb_solve.proofs.TextLaws.{spelled_not_refused}
use Rattle.pb_solve.proofs.prepare.prepare.Goals as goal

pub returns-in-Ok-divide-clause-unread : goal.returns-in-Ok-divide-clause-unread
returns-in-Ok-divide-clause-unread g c = spelled_not_refused _ _ _ _ _ c.in-Ok.ensures.found

pub returns-in-Err-divide-clause-unread :
    goal.returns-in-Err-divide-clause-unread
returns-in-Err-divide-clause-unread g c = spelled_not_refused _ _ _ _ _ c.in-Ok.ensures.found

pub returns-in-Ok-divide-clause-refused_input : goal.returns-in-Ok-divide-clause-refused_input
returns-in-Ok-divide-clause-refused_input g c = spelled_not_refused _ _ _ _ _ c.in-Ok.ensures.found

pub returns-in-Err-divide-clause-refused_input : goal.returns-in-Err-divide-clause-refused_input
returns-in-Err-divide-clause-refused_input g c = spelled_not_refused _ _ _ _ _ c.in-Ok.ensures.found
