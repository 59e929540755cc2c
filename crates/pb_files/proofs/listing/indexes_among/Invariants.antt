use Rattle.std.proofs.Common.{◌≡◌, map, string_bytes, take}
use Rattle.std.specs.Prelude.{filter}
use Rattle.pb_files.specs.Reading.{is_index_name}
use Rattle.pb_files.specs.Texts.{texts}
use Rattle.pb_files.proofs.listing.indexes_among.Given as goal

-- the names so far that are of indexes
abbrev pub invariant-loop-name : goal.invariant-loop-name
invariant-loop-name l = texts l.indexes ≡ filter is_index_name (map string_bytes (take l.name-index l.found))
