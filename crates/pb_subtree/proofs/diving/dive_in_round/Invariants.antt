use Rattle.std.proofs.Common.{◌≡◌, false}
use Rattle.pb_subtree.specs.Nodes.{IsAtNode, IsDived}
use Rattle.pb_subtree.proofs.diving.dive_in_round.Given as goal

abbrev pub invariant-loop : goal.invariant-loop
invariant-loop g l = record {
  node : IsAtNode l.best.problem l.state l.best.held l.run.agreed;
  no_conflict : l.state.engine.conflict ≡ false;
  dived : IsDived g.S.Share.keeps g.S.Share.lends l.fn.share l.share l.fn.state l.state l.fn.best l.best l.fn.run l.run l.is_better;
}
