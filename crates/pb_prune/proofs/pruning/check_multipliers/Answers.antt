use Rattle.pb_prune.proofs.ClosedLemmas.{none_closed}
use Rattle.pb_prune.proofs.pruning.check_multipliers.Goals as goal

pub returns-then-improve_multipliers : goal.returns-then-improve_multipliers
returns-then-improve_multipliers g c = record {
  closed = λ _. none_closed c.args.best.now.problem c.args.engine.now c.args.best.now.held (c.improve_multipliers.ensures.no_completion c.if-improve_multipliers.true);
  tied = λ var is. absurd (let none : ⊥ = cc in none);
  unchanged = c.improve_multipliers.ensures.unchanged;
  known = c.requires.known;
}
