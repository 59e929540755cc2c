use Rattle.std.proofs.Common.{vec_len}
use Rattle.pb_engine.specs.EngineState.{EngineState}
use Rattle.pb_subtree.specs.Nodes.{IsBackOnPath}
use Rattle.pb_subtree.specs.SearchState.{IsUnderWay}
use Rattle.pb_subtree.proofs.step_back.step_back.Given as goal

abbrev pub invariant-loop-state : goal.invariant-loop-state
invariant-loop-state g l = record {
  back : IsBackOnPath l.best.problem l.initial.state l.state l.best.held l.agreed;
  under_way : (start : EngineState) → IsUnderWay l.best.problem start l.initial.state l.best.held → IsUnderWay l.best.problem start l.state l.best.held;
}

abbrev pub decreases-loop-state : goal.decreases-loop-state
decreases-loop-state g l = vec_len l.state.branches
