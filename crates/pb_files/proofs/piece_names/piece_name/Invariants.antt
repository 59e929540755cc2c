use Rattle.std.proofs.Common.{◌≡◌, ◌-◌, ◌≤◌, ◌⊎◌, length, replicate}
use Rattle.std.specs.Prelude.{string_bytes}
use Rattle.pb_files.proofs.piece_names.piece_name.Given as goal

-- one zero for each step, and no more than there is room for
abbrev pub invariant-loop : goal.invariant-loop
invariant-loop l = record {
  zeros : string_bytes l.name ≡ replicate (l.counter - length l.digits) 48;
  place : (l.counter ≡ length l.digits) ⊎ (l.counter ≤ l.width);
}
