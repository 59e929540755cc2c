use Rattle.std.proofs.Common.{ap, sym, ◌∙◌, arith}
use Rattle.pb_board.specs.Seats.{BoardView, SeatView}
use Rattle.pb_board.proofs.StepLemmas.{loads}
use Rattle.pb_board.proofs.board.Board.load_word.Goals as goal

pub load-requires : goal.load-requires
load-requires c =
    let same = ap (λ (b : BoardView). b.id) c.self.view_is in
    let words = ap (λ (b : BoardView). b.id.words) c.self.view_is in
    let row = c.requires.row in
    (ap (λ (v : SeatView). v.board) c.seat.view_is ∙ c.requires.board ∙ sym same, omega arith, loads _ _ _ _ _ (omega arith))
