use Rattle.std.proofs.Common.{length, ap, sym, ◌∙◌, arith}
use Rattle.pb_board.specs.Seats.{BoardView, SeatView}
use Rattle.pb_board.proofs.StepLemmas.{claims}
use Rattle.pb_board.proofs.board.Board.claim.Goals as goal

pub fetch_add-number-requires : goal.fetch_add-number-requires
fetch_add-number-requires c =
    let room = ap (λ (v : SeatView). length v.claimed) c.seat.view_is in (
      ap (λ (v : SeatView). v.board) c.seat.view_is ∙ c.requires.board ∙ sym (ap (λ (b : BoardView). b.id) c.self.view_is),
      omega arith,
      claims _ _ _ _ (omega arith) (omega arith),
    )
