use Rattle.std.proofs.Common.{ap, sym, ◌∙◌, arith}
use Rattle.pb_board.specs.Seats.{BoardView, SeatView}
use Rattle.pb_board.proofs.StepLemmas.{offers}
use Rattle.pb_board.proofs.board.Board.offer.Goals as goal

pub fetch_min-requires : goal.fetch_min-requires
fetch_min-requires c = (
  ap (λ (v : SeatView). v.board) c.seat.view_is ∙ c.requires ∙ sym (ap (λ (b : BoardView). b.id) c.self.view_is),
  omega arith,
  offers _ _ _ _ _ (omega arith),
)
