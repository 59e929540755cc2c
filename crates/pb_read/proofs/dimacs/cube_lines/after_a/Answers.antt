use Rattle.std.proofs.Common.{◌∙◌, sym}
use Rattle.pb_read.proofs.CubeReading.{line_is, words_are}
use Rattle.pb_read.proofs.dimacs.cube_lines.after_a.Goals as goal

pub returns : goal.returns
returns c = (
  line_is c.args.line.now c.in_ok-first.first.now c.in_ok-first.words.now c.in_ok-first.ensures (sym c.is_a.ensures ∙ c.if-not-is_a.false),
  words_are c.args.line.now c.in_ok-first.first.now c.in_ok-first.words.now c.in_ok-first.ensures,
)
