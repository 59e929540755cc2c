use Rattle.std.proofs.Common.{◌≡◌}
use Rattle.bench.proofs.searching.search_all.Given as goal

abbrev pub invariant-loop-i : goal.invariant-loop-i
invariant-loop-i l = l.best.problem ≡ l.tables.problem
