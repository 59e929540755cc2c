use Rattle.std.proofs.Common.{◌≡◌, ◌<◌, ◌*◌, length}
use Rattle.pb_read.specs.declared.digits.TheConstants.{ROOMY}
use Rattle.pb_read.specs.Runs.{skip_while}
use Rattle.pb_read.specs.Text.{is_digit}
use Rattle.pb_read.specs.TokenCuts.{value_after}
use Rattle.pb_read.proofs.digits.short_value.Given as goal

-- the digits so far are in the value, and the others are left
abbrev pub invariant-loop-rest : goal.invariant-loop-rest
invariant-loop-rest l = record {
  value : value_after 0 l.bytes ≡ value_after l.value l.rest;
  rest : skip_while is_digit l.bytes ≡ skip_while is_digit l.rest;
  small : l.value < ROOMY * 10;
}

abbrev pub decreases-loop-rest : goal.decreases-loop-rest
decreases-loop-rest l = length l.rest
