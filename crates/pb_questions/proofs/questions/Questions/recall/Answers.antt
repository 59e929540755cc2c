use Rattle.pb_questions.proofs.questions.Questions.recall.Goals as goal

pub best_told-requires-clause-tells : goal.best_told-requires-clause-tells
best_told-requires-clause-tells c = c.tells-last.ensures c.self.inside.instance.now c.self.invariant.1.last

pub best_told-requires-then-ne-2-clause-tells : goal.best_told-requires-then-ne-2-clause-tells
best_told-requires-then-ne-2-clause-tells c = c.tells-first.ensures c.self.inside.instance.now c.self.invariant.1.first
