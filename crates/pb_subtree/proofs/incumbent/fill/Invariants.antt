use Rattle.std.proofs.Common.{◌≡◌, length}
use Rattle.pb_subtree.specs.SearchState.{AgreesBelow}
use Rattle.pb_subtree.proofs.incumbent.fill.Given as goal

abbrev pub invariant-loop-place : goal.invariant-loop-place
invariant-loop-place g l = record {
  same_length : length l.into ≡ length l.fn.into;
  filled : AgreesBelow l.engine.trail l.into l.place;
}
