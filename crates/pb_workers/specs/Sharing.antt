-- What a worker's share of the board is, and what its calls leave unchanged.
use Rattle.std.specs.Prelude.{◌≡◌, ℕ, Bool}
use Rattle.pb_board.specs.Seats.{BoardView, SeatView}

-- the board, the worker's number, the seat with which it steps, and whether assignments are lent from beside the board
pub record BoardShareView : Type 0 where
  pub board : BoardView
  pub worker : ℕ
  pub seat : SeatView
  pub lends_beside : Bool

-- the board, the worker's number, the seat's parts and claims, and the lending from beside the board are as before
pub record KeepsClaims (old new : BoardShareView) : Type 0 where
  pub board : new.board ≡ old.board
  pub worker : new.worker ≡ old.worker
  pub seat_of : new.seat.board ≡ old.seat.board
  pub parts : new.seat.parts ≡ old.seat.parts
  pub claimed : new.seat.claimed ≡ old.seat.claimed
  pub lending : new.lends_beside ≡ old.lends_beside

-- the board, the worker's number, and the seat's board and parts are as before
pub record SameSeat (old new : BoardShareView) : Type 0 where
  pub board : new.board ≡ old.board
  pub worker : new.worker ≡ old.worker
  pub seat_of : new.seat.board ≡ old.seat.board
  pub parts : new.seat.parts ≡ old.seat.parts
