use Rattle.std.proofs.Common.{map, string_bytes, take}
use Rattle.pb_files.specs.Reading.{ReadsSame}
use Rattle.pb_report.specs.Written.{refusal_report}
use Rattle.pb_files.proofs.parts.all_refuse.Given as goal

-- the files of the names so far refuse this
abbrev pub invariant-loop-name : goal.invariant-loop-name
invariant-loop-name g l = ReadsSame g.F.Files.reads (refusal_report l.fn.refusal) (map string_bytes (take l.name-index l.names)) l.initial.files l.files
