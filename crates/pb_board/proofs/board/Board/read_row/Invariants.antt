use Rattle.std.proofs.Common.{◌≡◌, length}
use Rattle.pb_board.proofs.board.Board.read_row.Given as goal

abbrev pub invariant-loop-j : goal.invariant-loop-j
invariant-loop-j l = (l.seat ≡ l.initial.seat) × (length l.bits ≡ length l.initial.bits)
