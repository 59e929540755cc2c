use Rattle.std.proofs.Common.{IsUtf8, rules}
use Rattle.pb_report.proofs.Numerals.{digits_text}
use Rattle.pb_report.proofs.numbers.count_of.Goals as goal

pub returns-in_err-ok-in_default-clause-accepted : goal.returns-in_err-ok-in_default-clause-accepted
returns-in_err-ok-in_default-clause-accepted c = λ n h small.
    let text : IsUtf8 c.args.digits.now = digits_text c.args.digits.now h.0.1 in
    search (rules, text)
