use Rattle.std.proofs.Common.{◌≡◌}
use Rattle.test_search.proofs.tests.shares.told_by_searches.Given as goal

abbrev pub invariant-loop-turn : goal.invariant-loop-turn
invariant-loop-turn g l = l.best.problem ≡ l.initial.best.problem
