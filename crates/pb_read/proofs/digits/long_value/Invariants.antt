use Rattle.std.proofs.Common.{◌≡◌, ◌≤◌, length}
use Rattle.pb_read.specs.declared.digits.TheConstants.{GREATEST_READ}
use Rattle.pb_read.specs.Runs.{skip_while}
use Rattle.pb_read.specs.Text.{is_digit}
use Rattle.pb_read.specs.Capped.{cap}
use Rattle.pb_read.specs.TokenCuts.{value_after}
use Rattle.pb_read.proofs.digits.long_value.Given as goal

-- the digits so far are in the value, and the others are left
abbrev pub invariant-loop-rest : goal.invariant-loop-rest
invariant-loop-rest l = record {
  value : cap (value_after l.start l.bytes) ≡ cap (value_after l.value l.rest);
  small : l.value ≤ GREATEST_READ;
  rest : skip_while is_digit l.bytes ≡ skip_while is_digit l.rest;
}

abbrev pub decreases-loop-rest : goal.decreases-loop-rest
decreases-loop-rest l = length l.rest
