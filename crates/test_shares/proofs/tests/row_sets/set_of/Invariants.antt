use Rattle.std.proofs.Common.{◌≡◌, length}
use Rattle.test_shares.proofs.tests.row_sets.set_of.Given as goal

abbrev pub invariant-loop-row : goal.invariant-loop-row
invariant-loop-row g l = length l.set ≡ l.rows
