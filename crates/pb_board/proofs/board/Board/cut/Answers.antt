use Rattle.std.proofs.Common.{ap, sym, ◌∙◌, arith}
use Rattle.pb_board.specs.Seats.{BoardView, SeatView}
use Rattle.pb_board.proofs.StepLemmas.{splits}
use Rattle.pb_board.proofs.board.Board.cut.Goals as goal

pub split_seat-given-requires : goal.split_seat-given-requires
split_seat-given-requires g c =
    let parts = ap (λ (v : SeatView). v.parts) c.seat.view_is in
    let kept = c.requires.kept in let fits = c.requires.parts in (
      ap (λ (v : SeatView). v.board) c.seat.view_is ∙ c.requires.board ∙ sym (ap (λ (b : BoardView). b.id) c.self.view_is),
      omega arith,
      splits _ _ _ _ (omega arith) (omega arith),
    )
