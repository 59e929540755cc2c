use Rattle.std.proofs.Common.{length, ◌∷◌, ap, sym, ◌∙◌, subst}
use Rattle.std.specs.Prelude.{Contains}
use Rattle.pb_board.specs.Seats.{BoardView, SeatView}
use Rattle.pb_board.specs.Numbers.{IsEachOnceBelow, IsLeast}
use Rattle.pb_board.specs.Rule.{top_key}
use Rattle.pb_board.proofs.CloseLemmas.{ends, Ended}
use Rattle.pb_board.proofs.board.Board.close.Goals as goal

ended : (c : goal.After-free) → Ended c.word-claims.result c.word-least.result c.seat.inside.token.me.0
ended c =
    let parts = ap (λ (v : SeatView). v.parts) c.seat.view_is in
    let workers = ap (λ (b : BoardView). b.workers) c.self.view_is in
    ends _ _ _ _ _ _ _ c.close_with-closed.ensures.values.2 (parts ∙ c.requires.whole ∙ sym workers ∙ sym c.self.invariant.0) c.word-claims.ensures c.word-least.ensures

pub returns-clause-count : goal.returns-clause-count
returns-clause-count c = (ended c).0 ∙ ap (λ (v : SeatView). length v.claimed) c.seat.view_is

pub returns-clause-numbers : goal.returns-clause-numbers
returns-clause-numbers c = subst (λ (v : SeatView). IsEachOnceBelow c.word-claims.result v.claimed) c.seat.view_is (ended c).1

pub returns-clause-least : goal.returns-clause-least
returns-clause-least c = subst (λ (v : SeatView). IsLeast c.word-least.result (top_key ∷ v.offered)) c.seat.view_is (ended c).2

pub returns-clause-seen : goal.returns-clause-seen
returns-clause-seen c = subst (λ (v : SeatView). Contains (top_key ∷ v.offered) v.seen) c.seat.view_is (ended c).3
