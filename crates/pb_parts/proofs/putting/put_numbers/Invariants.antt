use Rattle.std.proofs.Common.{codes, take}
use Rattle.std.specs.Io.KnownBytes.{Appends}
use Rattle.std.specs.List.{flat_map}
use Rattle.pb_parts.specs.Heading.{numbered}
use Rattle.pb_parts.proofs.putting.put_numbers.Given as goal

-- the numbers so far were written
abbrev pub invariant-loop-number : goal.invariant-loop-number
invariant-loop-number g l = Appends (g.W.Write.contents l.initial.out.held) (g.W.Write.contents l.out.held) (flat_map (numbered (codes " ")) (take l.number-index l.numbers))
