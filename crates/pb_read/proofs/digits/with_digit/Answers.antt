use Rattle.std.proofs.Common.{arith}
use Rattle.pb_read.specs.declared.digits.TheConstants.{GREATEST_READ}
use Rattle.pb_read.proofs.TokenCuts.{value_digit_cut}
use Rattle.pb_read.proofs.digits.with_digit.Goals as goal

pub returns : goal.returns
returns c = λ after. value_digit_cut GREATEST_READ c.args.value c.saturating_add.result c.args.digit after c.requires (omega (arith, c.saturating_mul.ensures, c.from.ensures, c.saturating_add.ensures))
