use Rattle.std.proofs.Common.{◌∙◌, sym, ap, arith}
use Rattle.pb_read.specs.Capped.{cap}
use Rattle.pb_read.proofs.TokenCuts.{value_end, value_nil}
use Rattle.pb_read.proofs.digits.long_value.Goals as goal

pub returns-then-not-is_digit-clause-value : goal.returns-then-not-is_digit-clause-value
returns-then-not-is_digit-clause-value c =
    let v = c.loop-rest.value in
    omega (arith, ap cap (value_end c.loop-rest.value c.loop-rest.rest.now (sym c.is_digit.ensures ∙ c.if-not-is_digit.true)), c.loop-rest.invariant.value)

pub returns-clause-value : goal.returns-clause-value
returns-clause-value c = omega (arith, ap cap (value_nil c.loop-rest.value c.loop-rest.rest.now c.in_default.len_below), c.loop-rest.invariant.value)
