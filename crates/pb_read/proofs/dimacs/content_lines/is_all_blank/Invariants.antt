use Rattle.std.proofs.Common.{◌≡◌, take, true}
use Rattle.std.specs.List.{list_all}
use Rattle.pb_read.specs.Text.{is_blank}
use Rattle.pb_read.proofs.dimacs.content_lines.is_all_blank.Given as goal

abbrev pub invariant-loop-byte : goal.invariant-loop-byte
invariant-loop-byte l = list_all is_blank (take l.byte-index l.line) ≡ true
