use Rattle.std.proofs.Common.{length, ap, sym, ◌∙◌, arith}
use Rattle.pb_board.specs.Seats.{BoardView, SeatView}
use Rattle.pb_board.proofs.StepLemmas.{joins, counts}
use Rattle.pb_board.proofs.board.Board.join.Goals as goal

pub join_seat-requires : goal.join_seat-requires
join_seat-requires c =
    let board = sym (ap (λ (b : BoardView). b.id) c.self.view_is) in
    let first = ap (λ (v : SeatView). length v.claimed) c.seat.view_is in
    let second = ap (λ (v : SeatView). length v.claimed) c.other.view_is in
    let room = c.requires.room in (
      ap (λ (v : SeatView). v.board) c.seat.view_is ∙ c.requires.boards.0 ∙ board,
      ap (λ (v : SeatView). v.board) c.other.view_is ∙ c.requires.boards.1 ∙ board,
      c.other.invariant.4,
      omega arith,
      joins _ _ _ _ _ (omega arith) (omega arith),
    )

pub load-requires : goal.load-requires
load-requires c =
    let board = sym (ap (λ (b : BoardView). b.id) c.self.view_is) in
    (c.join_seat.ensures.0 ∙ (ap (λ (v : SeatView). v.board) c.seat.view_is ∙ c.requires.boards.0 ∙ board), omega arith, counts _ _ _ _)
