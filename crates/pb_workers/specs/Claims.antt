-- What workers claim of the pieces, and which of it their parts name.
use Rattle.std.specs.Prelude.{◌≡◌, ℕ, ◌+◌, ◌*◌, ◌^◌, ◌<◌, ◌≤◌, ◌⊎◌, Bool, false, List, [], ◌∷◌, ◌++◌, length, flat_map, All, Any, Option, IfNone, IfSome}
use Rattle.pb_inst.specs.Problem.{Problem}
use Rattle.pb_inst.specs.declared.limits.TheConstants.{MAX_WORKERS}
use Rattle.pb_cubes.specs.Pieces.{CubeList}
use Rattle.pb_subtree.specs.declared.outcome.Outcome.{Outcome}
use Rattle.pb_subtree.specs.declared.outcome.Outcome.TheVariants.{Whole, Cut}
use Rattle.pb_board.specs.Numbers.{times}
use Rattle.pb_board.specs.Seats.{BoardView, SeatView}
use Rattle.pb_workers.specs.Dealing.{TaskView, has_claims, numbers_for, piece_of}
use Rattle.pb_workers.specs.Parts.{PartView, KeepsBudget, all_numbers}

-- how many pieces the cubes make
abbrev pub piece_count : CubeList → ℕ
piece_count pieces = length pieces.cubes + 1

-- the pieces among `count` that the numbers claimed from the board stand for, in order
abbrev pub pieces_among : Option TaskView → ℕ → List ℕ → List ℕ
pieces_among task count claimed = flat_map (piece_of task count) claimed

-- the last claim is at this number or past it
pub record EndsPast (count : ℕ) (claimed : List ℕ) : Type 0 where
  pub front : List ℕ
  pub last : ℕ
  pub ends : claimed ≡ front ++ last ∷ []
  pub no_piece : count ≤ last

-- the list is a merge of these two lists, which keeps the order of each
abbrev pub AreDealt : List ℕ → List ℕ → List ℕ → Type 0
AreDealt [] some others = (some ≡ []) × (others ≡ [])
AreDealt (n ∷ all) some others =
    ((rest : List ℕ) × (some ≡ n ∷ rest) × AreDealt all rest others) ⊎ ((rest : List ℕ) × (others ≡ n ∷ rest) × AreDealt all some rest)

-- Of the pieces in the list some were granted, and the others passed over, in order: none of these where pieces are not claimed
-- beyond the board. The granted ones are named, some as done and the others as cut, in order.
pub record AreNamed (claims : Bool) (all done cut : List ℕ) : Type 0 where
  pub granted : List ℕ
  pub passed : List ℕ
  pub is_granted : AreDealt all granted passed
  pub named : AreDealt granted done cut
  pub all_granted : claims ≡ false → passed ≡ []

-- one more piece is named by how its search ended: as done or as cut
abbrev pub NamesOneMore : Outcome → ℕ → (done cut done' cut' : List ℕ) → Type 0
NamesOneMore Whole piece done cut done' cut' = (done' ≡ done ++ piece ∷ []) × (cut' ≡ cut)
NamesOneMore Cut piece done cut done' cut' = (done' ≡ done) × (cut' ≡ cut ++ piece ∷ [])

-- One worker's whole work: its part names those pieces that its claims stand for and that it was granted, in order, some as done
-- and, where there is a budget or a race, others as cut, each within the budget. It has at most one claim more than there are numbers
-- of pieces, and its last claim is none of these, or it has that many.
pub record IsWork (p : Problem) (pieces : CubeList) (task : Option TaskView) (nodes : Option ℕ) (race : Bool) (part : PartView) (claimed : List ℕ) : Type 0 where
  pub of_instance : part.best.problem ≡ p
  pub of_pieces : part.pieces ≡ pieces
  pub named : AreNamed (has_claims task) (pieces_among task (piece_count pieces) claimed) part.named part.cut
  pub uncut : race ≡ false → IfNone nodes (part.cut ≡ [])
  pub budget : IfSome nodes (λ budget. KeepsBudget budget part)
  pub most : length claimed ≤ numbers_for task (piece_count pieces) + 1
  pub ends : EndsPast (numbers_for task (piece_count pieces)) claimed ⊎ (length claimed ≡ numbers_for task (piece_count pieces) + 1)

-- the same where there is no race: without a budget each piece is done
abbrev pub IsWholeWork : Problem → CubeList → Option TaskView → Option ℕ → PartView → List ℕ → Type 0
IsWholeWork p pieces task nodes part claimed = IsWork p pieces task nodes false part claimed

-- some claim is the number of no piece, or there are more claims than pieces
abbrev pub GoesPast : ℕ → List ℕ → Type 0
GoesPast count claimed = Any (λ n. count ≤ n) claimed ⊎ (count < length claimed)

-- The work of several workers: the parts name each piece at most as often as claims stand for it, and so often where pieces are not
-- claimed beyond the board, as done or, where there is a budget or a race, as cut, and nothing else; and the claims go past the pieces.
pub record AreWholeWork (p : Problem) (pieces : CubeList) (task : Option TaskView) (nodes : Option ℕ) (race : Bool) (parts : List PartView) (claimed : List ℕ) : Type 0 where
  pub of_instance : All (λ part. part.best.problem ≡ p) parts
  pub of_pieces : All (λ part. part.pieces ≡ pieces) parts
  pub at_most : (i : ℕ) → times i (all_numbers parts) ≤ times i (pieces_among task (piece_count pieces) claimed)
  pub named : has_claims task ≡ false → (i : ℕ) → times i (all_numbers parts) ≡ times i (pieces_among task (piece_count pieces) claimed)
  pub uncut : race ≡ false → IfNone nodes (All (λ part. part.cut ≡ []) parts)
  pub budget : IfSome nodes (λ budget. All (KeepsBudget budget) parts)
  pub past : GoesPast (piece_count pieces) claimed

-- a worker of this number may work on the board with the seat, which is of the board and has claimed nothing
pub record MayWork (board : BoardView) (seat : SeatView) (worker : ℕ) : Type 0 where
  pub of_board : seat.board ≡ board.id
  pub unclaimed : seat.claimed ≡ []
  pub below : worker < board.workers

-- as many workers may work on the board as the seat has parts, from the first one on
pub record MayFork (board : BoardView) (seat : SeatView) (first : ℕ) : Type 0 where
  pub of_board : seat.board ≡ board.id
  pub unclaimed : seat.claimed ≡ []
  pub workers : first + seat.parts ≤ board.workers
  pub most : board.workers ≤ MAX_WORKERS

-- One worker's whole work with a seat, which it gives back with its claims. The seat's board and parts stay.
pub record IsWorkWith (p : Problem) (pieces : CubeList) (task : Option TaskView) (nodes : Option ℕ) (race : Bool) (seat : SeatView) (part : PartView) (after : SeatView) : Type 0 where
  pub whole : IsWork p pieces task nodes race part after.claimed
  pub board : after.board ≡ seat.board
  pub parts : after.parts ≡ seat.parts
  pub claims : length after.claimed ≤ 2 ^ 32

-- the same of several workers, who have a part of the seat each
pub record AreWorkWith (p : Problem) (pieces : CubeList) (task : Option TaskView) (nodes : Option ℕ) (race : Bool) (seat : SeatView) (work : List PartView) (after : SeatView) : Type 0 where
  pub whole : AreWholeWork p pieces task nodes race work after.claimed
  pub board : after.board ≡ seat.board
  pub parts : after.parts ≡ seat.parts
  pub claims : length after.claimed ≤ 2 ^ 32 * seat.parts
