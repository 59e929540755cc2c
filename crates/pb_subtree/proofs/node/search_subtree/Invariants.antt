use Rattle.std.proofs.Common.{◌≡◌, false}
use Rattle.pb_prune.specs.Held.{MovesOn}
use Rattle.pb_subtree.specs.SearchState.{IsUnderWay, IsOwn}
use Rattle.pb_subtree.specs.Paths.{search_steps}
use Rattle.pb_subtree.specs.Nodes.{GoesOn}
use Rattle.pb_subtree.proofs.node.search_subtree.Given as goal

abbrev pub invariant-loop-branch : goal.invariant-loop-branch
invariant-loop-branch g l = record {
  under_way : IsUnderWay l.fn.best.problem l.fn.state.engine l.state l.best.held;
  moves_on : MovesOn l.fn.best l.best;
  own : g.S.Share.lends l.fn.share ≡ false → IsOwn l.fn.state.engine l.fn.best l.best;
  goes_on : GoesOn g.S.Share.keeps g.S.Share.lends l.fn.share l.share l.state.engine.trail l.best.held l.fn.run l.run;
}

abbrev pub decreases-loop-branch : goal.decreases-loop-branch
decreases-loop-branch g l = search_steps l.fn.best.problem.vars l.state.root_work l.state.branches.items
