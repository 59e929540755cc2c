use Rattle.std.proofs.Common.{◌≡◌, List, false}
use Rattle.pb_inst.specs.Literal.{Literal}
use Rattle.pb_dive.specs.Dives.{LeadsBack}
use Rattle.pb_engine.specs.Free.{IsFree}
use Rattle.pb_engine.specs.Soundness.{IsSoundTrail}
use Rattle.pb_prune.specs.AgreedPrefix.{KnowsHeldPrefix}
use Rattle.pb_prune.specs.Held.{MovesOn}
use Rattle.pb_subtree.specs.Descent.{IsDescentPaid}
use Rattle.pb_subtree.specs.SearchState.{SameBranchesAndRoom}
use Rattle.pb_subtree.proofs.diving.go_down.Given as goal

abbrev pub invariant-loop : goal.invariant-loop
invariant-loop g l = record {
  back : LeadsBack l.fn.state.engine l.state.engine;
  sound : IsSoundTrail l.state.engine;
  free : IsFree l.state.engine l.branch.lit;
  beside : SameBranchesAndRoom l.fn.state l.state;
  moves_on : MovesOn l.fn.best l.best;
  own : g.S.Share.lends l.fn.share ≡ false → l.best ≡ l.fn.best;
  kept : g.S.Share.keeps l.fn.share l.share;
  same_lending : g.S.Share.lends l.share ≡ g.S.Share.lends l.fn.share;
  known : (trail : List Literal) → KnowsHeldPrefix trail l.fn.best.held l.fn.run.agreed → KnowsHeldPrefix trail l.best.held l.run.agreed;
  paid : IsDescentPaid l.fn.state.engine l.state.engine l.fn.run.left l.run.left;
}
