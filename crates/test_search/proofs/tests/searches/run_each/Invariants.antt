use Rattle.std.proofs.Common.{◌≡◌}
use Rattle.test_search.proofs.tests.searches.run_each.Given as goal

abbrev pub invariant-loop-budget : goal.invariant-loop-budget
invariant-loop-budget l = record {
  same_search : l.search.division ≡ l.initial.search.division;
  same_instance : l.best.problem ≡ l.fn.best.problem;
}
