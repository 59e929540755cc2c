use Rattle.std.proofs.Common.{◌≡◌}
use Rattle.pb_control.specs.Budget.{IsLeftOf}
use Rattle.pb_subtree.proofs.probing.find_failed.Given as goal

abbrev pub invariant-loop : goal.invariant-loop
invariant-loop g l = record {
  unchanged : l.engine ≡ l.fn.engine;
  work : l.work ≡ l.fn.work;
  budget : IsLeftOf l.fn.left l.left;
}
