use Rattle.std.proofs.Common.{◌≡◌, ◌<◌, ◌≤◌, ◌-◌, ℕ, length, get_or, false}
use Rattle.pb_read.specs.Text.{is_blank}
use Rattle.pb_read.proofs.dimacs.word.word_len.Given as goal

-- no byte so far is a blank
abbrev pub invariant-loop-len : goal.invariant-loop-len
invariant-loop-len l = record {
  positive : 0 < l.len;
  within : l.len ≤ length l.bytes;
  so_far : (k : ℕ) → k < l.len → is_blank (get_or l.bytes k 0) ≡ false;
}

abbrev pub decreases-loop-len : goal.decreases-loop-len
decreases-loop-len l = length l.bytes - l.len
