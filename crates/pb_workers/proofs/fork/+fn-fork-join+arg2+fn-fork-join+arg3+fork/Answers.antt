use Rattle.std.proofs.Common.{◌≡◌, ◌+◌, ◌∙◌, length, ap, arith, length-append, sym}
use Rattle.std.proofs.lemmas.Grind.{common_steps}
use Rattle.std.proofs.lemmas.Result.{IfOk-at_ok}
use Rattle.pb_board.specs.Seats.{BoardView, SeatView}
use Rattle.pb_workers.proofs.ClaimLaws.{work_of_both, work_of_one}
use Rattle.pb_workers.proofs.fork.+fn-fork-join+arg2+fn-fork-join+arg3+fork.Goals as goal

pub returns : goal.returns
returns g t c =
    let low = IfOk-at_ok _ c.in_ok-parts.was c.join-low.ensures.first in
    let high = IfOk-at_ok _ c.in_ok-more.was c.join-low.ensures.second in
    let low_parts = low.parts in
    let high_parts = high.parts in
    let low_claims = low.claims in
    let high_claims = high.claims in
    let parts : c.join.result.parts ≡ c.in_ok-parts.low.parts + c.in_ok-more.high.parts = ap (λ (s : SeatView). s.parts) c.join.ensures in
    let claims : length c.join.result.claimed ≡ length c.in_ok-parts.low.claimed + length c.in_ok-more.high.claimed = ap (λ (s : SeatView). length s.claimed) c.join.ensures ∙ length-append c.in_ok-parts.low.claimed c.in_ok-more.high.claimed in
    record {
      whole = work_of_both (g.C.WorkerSet.problem c.args.set.now) (g.C.WorkerSet.pieces c.args.set.now) (g.C.WorkerSet.task c.args.set.now) (g.C.WorkerSet.nodes c.args.set.now) (g.C.WorkerSet.race c.args.set.now) c.in_ok-parts.parts.items c.in_ok-more.more.items c.append.new.self.items c.board-2.result.now c.in_ok-parts.low c.in_ok-more.high c.join.result
          c.in_ok-append.ensures.items c.join.ensures low.whole high.whole;
      board = ap (λ (s : SeatView). s.board) c.join.ensures ∙ (ap (λ (b : BoardView). b.id) c.board-2.ensures ∙ sym c.requires.of_board);
      parts = grind (arith, common_steps);
      claims = grind (arith, common_steps);
    }

pub returns-then-parts-eq1 : goal.returns-then-parts-eq1
returns-then-parts-eq1 g t c = record {
  whole = work_of_one (g.C.WorkerSet.problem c.args.set.now) (g.C.WorkerSet.pieces c.args.set.now) (g.C.WorkerSet.task c.args.set.now) (g.C.WorkerSet.nodes c.args.set.now) (g.C.WorkerSet.race c.args.set.now) c.in_ok-part.part c.push.new.self.items c.new-parts.result.items c.in_ok-part.seat.claimed c.in_ok-push.ensures.items c.new-parts.ensures.items c.in_ok-part.ensures.whole;
  board = c.in_ok-part.ensures.board;
  parts = c.in_ok-part.ensures.parts;
  claims = grind (arith, common_steps);
}
