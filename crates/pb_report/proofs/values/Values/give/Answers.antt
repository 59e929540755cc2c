use Rattle.std.proofs.Common.{◌∙◌, arith, sym}
use Rattle.pb_report.proofs.Taking.{given_one}
use Rattle.pb_report.proofs.values.Values.give.Goals as goal

pub returns-clause-taken : goal.returns-clause-taken
returns-clause-taken c = λ vars taken word h before spelled.
    rw (c.set-2.ensures, c.set.ensures) (given_one vars taken word c.args.self.now c.args.positive c.args.var h before spelled
    (omega arith) (omega arith) (omega arith) (sym c.get.ensures ∙ c.if-get.false))
