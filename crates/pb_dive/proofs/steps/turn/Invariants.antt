use Rattle.std.proofs.Common.{◌≤◌, vec_len}
use Rattle.pb_dive.specs.Dives.{IsTakenBackTo}
use Rattle.pb_dive.proofs.steps.turn.Given as goal

abbrev pub invariant-loop-last : goal.invariant-loop-last
invariant-loop-last g l = record {
  taken_back : IsTakenBackTo l.floor l.initial.engine l.engine;
  fewer : vec_len l.path.decisions ≤ vec_len l.initial.path.decisions;
}

abbrev pub decreases-loop-last : goal.decreases-loop-last
decreases-loop-last g l = vec_len l.path.decisions
