use Rattle.std.proofs.Common.{IsUtf8, rules}
use Rattle.pb_report.proofs.Numerals.{number_text}
use Rattle.pb_report.proofs.numbers.number_of.Goals as goal

pub returns-in_err-ok-clause-accepted : goal.returns-in_err-ok-clause-accepted
returns-in_err-ok-clause-accepted c = λ z h small.
    let text : IsUtf8 c.args.word.now = number_text c.args.word.now h.0.1 in
    search (rules, text)
