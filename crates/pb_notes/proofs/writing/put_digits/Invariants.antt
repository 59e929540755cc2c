use Rattle.std.proofs.Common.{◌≡◌, ◌+◌, ◌≤◌, ◌++◌, map, take, vec_len, vec_capacity}
use Rattle.pb_notes.specs.Notes.{digit_of}
use Rattle.pb_notes.proofs.writing.put_digits.Given as goal

-- the digits of the values so far were added
abbrev pub invariant-loop-place : goal.invariant-loop-place
invariant-loop-place l = record {
  written : l.text.items ≡ l.fn.text.items ++ map digit_of (take l.place l.values);
  len : vec_len l.text ≡ vec_len l.fn.text + l.place;
  room : vec_capacity l.fn.text ≤ vec_capacity l.text;
}
