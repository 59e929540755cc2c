-- What stands for a cost on the board.
use Rattle.std.specs.Prelude.{◌≡◌, ℕ, ◌-◌, ◌^◌, ℤ, pos, neg_ℤ, ◌+ℤ◌, ◌≤ℤ◌}

-- the cost and 2^63 where that is a number of 64 bits, else the end of their range that is nearer
pub record IsKeyOf (cost : ℤ) (key : ℕ) : Type 0 where
  pub lowest : cost ≤ℤ neg_ℤ (pos (2 ^ 63)) → key ≡ 0
  pub between : neg_ℤ (pos (2 ^ 63)) ≤ℤ cost → cost ≤ℤ pos (2 ^ 63 - 1) → pos key ≡ cost +ℤ pos (2 ^ 63)
  pub highest : pos (2 ^ 63) ≤ℤ cost → key ≡ 2 ^ 64 - 1
