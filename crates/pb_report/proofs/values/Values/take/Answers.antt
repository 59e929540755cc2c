use Rattle.std.proofs.Common.{subst}
use Rattle.pb_report.specs.declared.words.ValueWord.{ValueWord}
use Rattle.pb_report.specs.Values.{IsValueWord}
use Rattle.pb_report.proofs.Taking.{ended_one}
use Rattle.pb_report.proofs.values.Values.take.Goals as goal

pub returns-in-Some-End-clause-taken : goal.returns-in-Some-End-clause-taken
returns-in-Some-End-clause-taken c = λ vars taken h.
    ended_one vars taken c.args.word.now c.args.self.now h c.if-self.false
    (subst (λ (value : ValueWord). IsValueWord c.args.self.now.format c.args.word.now value) c.in-Some-End.field-0-is c.in-Some-End.ensures.spelled)
