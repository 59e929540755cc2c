use Rattle.std.proofs.Common.{vec_len}
use Rattle.pb_engine.specs.Free.{IsFree}
use Rattle.pb_dive.specs.Dives.{IsTakenBackTo}
use Rattle.pb_dive.proofs.steps.next_below.Given as goal

abbrev pub invariant-loop-branch : goal.invariant-loop-branch
invariant-loop-branch g l = record {
  taken_back : IsTakenBackTo l.fn.floor l.fn.engine l.engine;
  free : IsFree l.engine l.branch.lit;
}

abbrev pub decreases-loop-branch : goal.decreases-loop-branch
decreases-loop-branch g l = vec_len l.path.decisions
