use Rattle.std.proofs.Common.{◌≡◌, ℕ, ◌<◌, ◌≤◌, true, length, get_or}
use Rattle.std.specs.Char.{is_ascii_digit}
use Rattle.pb_files.proofs.listing.digits_start.Given as goal

-- from here on there are only digits
abbrev pub invariant-loop-start : goal.invariant-loop-start
invariant-loop-start l = record {
  within : l.start ≤ length l.text;
  digits : (k : ℕ) → l.start ≤ k → k < length l.text → is_ascii_digit (get_or l.text k 0) ≡ true;
}

abbrev pub decreases-loop-start : goal.decreases-loop-start
decreases-loop-start l = l.start
