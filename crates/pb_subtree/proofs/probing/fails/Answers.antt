use Rattle.pb_subtree.proofs.ProbingLemmas.{tried_back, failed}
use Rattle.pb_subtree.proofs.probing.fails.Goals as goal

pub returns-clause-fails : goal.returns-clause-fails
returns-clause-fails g c is a h better =
    let e = c.is_closed_with-fails.ensures in
    failed c.args.best.now.problem c.args.engine.now c.is_closed_with-fails.new.engine c.args.lit c.args.best.now.held a c.requires.sound e.sound (e.grown, e.forced) e.assumptions (e.closed is) h better

pub returns-clause-unchanged : goal.returns-clause-unchanged
returns-clause-unchanged g c =
    let e = c.is_closed_with-fails.ensures in
    tried_back c.args.engine.now c.is_closed_with-fails.new.engine c.undo_to.new.self c.args.lit c.level-level.result (e.grown, e.forced) c.level-level.ensures.count c.undo_to.ensures.undone c.requires.free.no_conflict
