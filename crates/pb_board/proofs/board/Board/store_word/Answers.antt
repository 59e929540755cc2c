use Rattle.std.proofs.Common.{ap, sym, ◌∙◌, arith}
use Rattle.pb_board.specs.Seats.{BoardView, SeatView}
use Rattle.pb_board.proofs.StepLemmas.{stores}
use Rattle.pb_board.proofs.board.Board.store_word.Goals as goal

pub store-requires : goal.store-requires
store-requires c =
    let same = ap (λ (b : BoardView). b.id) c.self.view_is in
    let words = ap (λ (b : BoardView). b.id.words) c.self.view_is in
    let row = c.requires.row in
    (ap (λ (v : SeatView). v.board) c.seat.view_is ∙ c.requires.board ∙ sym same, omega arith, stores _ _ _ _ _ _ (omega arith))
