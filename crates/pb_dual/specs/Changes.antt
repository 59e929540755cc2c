-- Changes of multipliers.
use Rattle.std.specs.Prelude.{ℕ}

-- a row whose multiplier was changed, and what it was before
pub record Change : Type 0 where
  pub row : ℕ
  pub before : ℕ
