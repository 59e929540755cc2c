use Rattle.std.proofs.Common.{take}
use Rattle.pb_hint.specs.Places.{IsPosition}
use Rattle.pb_hint.proofs.places.position_after.Given as goal

-- where what follows the bytes so far stands
abbrev pub invariant-loop-byte : goal.invariant-loop-byte
invariant-loop-byte l = IsPosition (take l.byte-index l.before) l.line l.column
