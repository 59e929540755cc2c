use Rattle.std.proofs.Common.{rules, ◌≡◌, ◌∙◌, ap}
use Rattle.pb_read.specs.Runs.{first_is, skip_while}
use Rattle.pb_read.specs.Text.{is_blank}
use Rattle.pb_read.proofs.TokenCuts.{skip_first}
use Rattle.pb_read.proofs.line.after_blanks.Goals as goal

pub returns-clause-stops : goal.returns-clause-stops
returns-clause-stops c =
    let skipped : c.after_while.result.now ≡ skip_while is_blank c.args.bytes.now = search rules in
    ap (first_is is_blank) skipped ∙ skip_first is_blank c.args.bytes.now
