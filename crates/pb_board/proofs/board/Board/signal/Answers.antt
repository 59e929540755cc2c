use Rattle.std.proofs.Common.{ap, sym, ◌∙◌, arith}
use Rattle.pb_board.specs.Seats.{BoardView, SeatView}
use Rattle.pb_board.proofs.StepLemmas.{raises}
use Rattle.pb_board.proofs.board.Board.signal.Goals as goal

pub fetch_max-requires : goal.fetch_max-requires
fetch_max-requires c =
    let same = ap (λ (b : BoardView). b.id) c.self.view_is in
    let words = ap (λ (b : BoardView). b.id.words) c.self.view_is in
    (ap (λ (v : SeatView). v.board) c.seat.view_is ∙ c.requires ∙ sym same, omega arith, raises _ _ _ _ _ _ (omega arith))
