use Rattle.std.specs.Io.KnownBytes.{Appends}
use Rattle.pb_files.specs.Writing.{name_lines}
use Rattle.pb_files.proofs.index.write_names.Given as goal

-- the names below this number are written
abbrev pub invariant-loop-number : goal.invariant-loop-number
invariant-loop-number g l = Appends (g.W.Write.contents l.initial.out) (g.W.Write.contents l.out) (name_lines l.format l.last l.number)
