use Rattle.std.proofs.Common.{◌≡◌, false}
use Rattle.pb_engine.specs.Soundness.{IsSoundTrail}
use Rattle.pb_prune.specs.Held.{MovesOn}
use Rattle.pb_subtree.specs.Nodes.{GoesOn, IsFoundAt}
use Rattle.pb_subtree.specs.SearchState.{SameBranches}
use Rattle.pb_subtree.proofs.node.expand.Given as goal

abbrev pub invariant-loop : goal.invariant-loop
invariant-loop g l = record {
  same_branches : SameBranches l.fn.state l.state;
  sound : IsSoundTrail l.state.engine;
  moves_on : MovesOn l.fn.best l.best;
  own : g.S.Share.lends l.fn.share ≡ false → IsFoundAt l.state.engine l.fn.best l.best;
  goes_on : GoesOn g.S.Share.keeps g.S.Share.lends l.fn.share l.share l.state.engine.trail l.best.held l.fn.run l.run;
}
