-- Bytes that are handed over into a caller's room.
use Rattle.std.specs.Prelude.{ℕ, List, ◌++◌, length, take, drop}

-- the room with as many of the bytes at its beginning as it takes
abbrev pub copied_into : (room bytes : List ℕ) → List ℕ
copied_into room bytes = take (length room) bytes ++ drop (length bytes) room
