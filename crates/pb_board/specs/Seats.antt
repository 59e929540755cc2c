-- A seat and a board, as contracts see them.
use Rattle.std.specs.Prelude.{ℕ, ◌+◌, ◌/◌, List}
use Rattle.atomic_table.specs.Seated.{TableId}

-- a seat: its board, its parts, the numbers that it claimed, the keys that it offered, and the least key that it has seen
pub record SeatView : Type 0 where
  pub board : TableId
  pub parts : ℕ
  pub claimed : List ℕ
  pub offered : List ℕ
  pub seen : ℕ

-- a board: which one it is, and what it was made for
pub record BoardView : Type 0 where
  pub id : TableId
  pub workers : ℕ
  pub vars : ℕ

-- how many words of 64 bits a row of n bits takes
abbrev pub words_for : ℕ → ℕ
words_for n = (n + 63) / 64
