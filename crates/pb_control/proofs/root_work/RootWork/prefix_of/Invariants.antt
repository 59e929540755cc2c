use Rattle.std.proofs.Common.{◌≡◌}
use Rattle.pb_control.proofs.root_work.RootWork.prefix_of.Given as goal

abbrev pub invariant-loop-place : goal.invariant-loop-place
invariant-loop-place l = l.self-inside.returns ≡ l.fn.self
