use Rattle.std.proofs.Common.{◌≡◌, ◌<◌, ◌+◌, ◌^◌, length}
use Rattle.pb_read.specs.ClauseReading.{content_from, lines_from}
use Rattle.pb_read.proofs.dimacs.content_lines.ContentLines.next.Given as goal

-- the lines that were passed over had no content
abbrev pub invariant-loop-line : goal.invariant-loop-line
invariant-loop-line l = record {
  counted : l.self.before + length l.self.rest < 2 ^ 64;
  content : content_from (l.self.before + 1) l.self.rest ≡ content_from (l.fn.self.before + 1) l.fn.self.rest;
  lines : l.self.before + length (lines_from (l.self.before + 1) l.self.rest) ≡ l.fn.self.before + length (lines_from (l.fn.self.before + 1) l.fn.self.rest);
}

abbrev pub decreases-loop-line : goal.decreases-loop-line
decreases-loop-line l = length l.self.rest
