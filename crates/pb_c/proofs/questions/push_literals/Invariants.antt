use Rattle.std.proofs.Common.{◌≡◌, All, map, take}
use Rattle.pb_c.specs.Called.{number_of, IsVariable}
use Rattle.pb_c.proofs.questions.push_literals.Given as goal

-- the numbers so far are those of the literals
abbrev pub invariant-loop-number : goal.invariant-loop-number
invariant-loop-number l = (map number_of l.room.items ≡ take l.number-index l.numbers) × All IsVariable (take l.number-index l.numbers)
