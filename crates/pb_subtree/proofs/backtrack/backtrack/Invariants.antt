use Rattle.std.proofs.Common.{vec_len}
use Rattle.pb_engine.specs.EngineState.{EngineState}
use Rattle.pb_subtree.specs.Nodes.{IsBackOnPath}
use Rattle.pb_subtree.specs.SearchState.{IsLeaving}
use Rattle.pb_subtree.proofs.Moves.{IsShortened}
use Rattle.pb_subtree.proofs.backtrack.backtrack.Given as goal

abbrev pub invariant-loop-branch : goal.invariant-loop-branch
invariant-loop-branch g l = record {
  back : IsBackOnPath l.best.problem l.initial.state l.state l.best.held l.agreed;
  shortened : IsShortened l.initial.state.branches.items l.state.branches.items;
  leaving : (start : EngineState) → IsLeaving l.best.problem start l.initial.state l.best.held → IsLeaving l.best.problem start l.state l.best.held;
}

abbrev pub decreases-loop-branch : goal.decreases-loop-branch
decreases-loop-branch g l = vec_len l.state.branches
