use Rattle.std.proofs.Common.{◌≡◌, length, take, map}
use Rattle.pb_notes.specs.Notes.{is_one}
use Rattle.pb_notes.proofs.reading.Note.copy_into.Given as goal

-- the values so far are copied
abbrev pub invariant-loop-place : goal.invariant-loop-place
invariant-loop-place l = record {
  same_length : length l.into ≡ length l.fn.into;
  copied : take l.place l.into ≡ take l.place (map is_one l.self-inside.digits.now);
}
