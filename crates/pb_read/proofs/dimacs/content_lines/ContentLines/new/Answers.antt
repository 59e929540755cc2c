use Rattle.std.proofs.Common.{◌≡◌, ◌∙◌, List, ℕ, ap, length, arith}
use Rattle.pb_read.specs.Text.{lines}
use Rattle.pb_read.specs.ClauseReading.{content_from, lines_from}
use Rattle.pb_read.proofs.Lines.{same_lines}
use Rattle.pb_read.proofs.dimacs.content_lines.ContentLines.new.Goals as goal

pub returns-clause-content : goal.returns-clause-content
returns-clause-content c =
    let same : c.lines_with_terminator.result ≡ lines c.args.text.now = c.lines_with_terminator.ensures.value ∙ same_lines c.args.text.now in
    ap (λ (ls : List (List ℕ)). content_from 1 ls) same

pub returns-clause-lines : goal.returns-clause-lines
returns-clause-lines c =
    let same : c.lines_with_terminator.result ≡ lines c.args.text.now = c.lines_with_terminator.ensures.value ∙ same_lines c.args.text.now in
    let many = ap (λ (ls : List (List ℕ)). length (lines_from 1 ls)) same in
    omega (arith, many)
