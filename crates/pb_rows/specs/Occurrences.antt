-- Where literals occur.
use Rattle.std.specs.Prelude.{ℕ}

-- a row in which a literal occurs, and with which coefficient
pub record Occurrence : Type 0 where
  pub row : ℕ
  pub coef : ℕ

-- an occurrence, and the place of its literal
pub record Entry : Type 0 where
  pub place : ℕ
  pub occurrence : Occurrence
