use Rattle.std.proofs.Common.{map, string_bytes, take}
use Rattle.pb_files.proofs.Known.{IsKnown}
use Rattle.pb_files.proofs.counting.count_pieces.Given as goal

-- the number is known by the indexes so far
abbrev pub invariant-loop-place : goal.invariant-loop-place
invariant-loop-place g l = IsKnown g.F.Files.reads l.format l.whole.instance.vars l.whole.digest l.initial.pieces l.pieces (map string_bytes (take l.place l.indexes.items)) l.initial.files l.files
