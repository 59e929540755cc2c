use Rattle.std.proofs.Common.{◌≡◌, ◌≤◌, length, min}
use Rattle.pb_read.specs.declared.digits.TheConstants.{GREATEST_COUNT}
use Rattle.pb_read.specs.Runs.{skip_while}
use Rattle.pb_read.specs.Text.{is_digit}
use Rattle.pb_read.specs.TokenCuts.{value_after}
use Rattle.pb_read.proofs.digits.leading_count.Given as goal

-- the digits so far are in the count, and the others are left
abbrev pub invariant-loop-rest : goal.invariant-loop-rest
invariant-loop-rest l = record {
  value : min (value_after 0 l.bytes) GREATEST_COUNT ≡ min (value_after l.count l.rest) GREATEST_COUNT;
  small : l.count ≤ GREATEST_COUNT;
  rest : skip_while is_digit l.bytes ≡ skip_while is_digit l.rest;
}

abbrev pub decreases-loop-rest : goal.decreases-loop-rest
decreases-loop-rest l = length l.rest
