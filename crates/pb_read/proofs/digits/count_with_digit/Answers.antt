use Rattle.std.proofs.Common.{arith}
use Rattle.pb_read.specs.declared.digits.TheConstants.{GREATEST_COUNT}
use Rattle.pb_read.proofs.TokenCuts.{value_digit_cut}
use Rattle.pb_read.proofs.digits.count_with_digit.Goals as goal

pub returns : goal.returns
returns c = λ after. value_digit_cut GREATEST_COUNT c.args.count _ c.args.digit after c.requires (omega (arith, c.min.ensures))
