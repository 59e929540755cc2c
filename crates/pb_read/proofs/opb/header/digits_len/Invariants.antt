use Rattle.std.proofs.Common.{◌≡◌, ◌≤◌, ◌-◌, ◌++◌, length, take, drop}
use Rattle.std.specs.Prelude.{take_while}
use Rattle.pb_read.specs.Runs.{skip_while}
use Rattle.pb_read.specs.Text.{is_digit}
use Rattle.pb_read.proofs.opb.header.digits_len.Given as goal

abbrev pub invariant-loop-len : goal.invariant-loop-len
invariant-loop-len l = record {
  within : l.len ≤ length l.bytes;
  front : take_while is_digit l.bytes ≡ take l.len l.bytes ++ take_while is_digit (drop l.len l.bytes);
  rest : skip_while is_digit l.bytes ≡ skip_while is_digit (drop l.len l.bytes);
}

abbrev pub decreases-loop-len : goal.decreases-loop-len
decreases-loop-len l = length l.bytes - l.len
