use Rattle.std.proofs.Common.{All, take}
use Rattle.pb_parts.specs.Parts.{IsPiece}
use Rattle.pb_parts.proofs.fitting.check_numbers.Given as goal

-- the numbers so far are of pieces
abbrev pub invariant-loop-number : goal.invariant-loop-number
invariant-loop-number l = All (IsPiece l.division) (take l.number-index l.numbers)
