use Rattle.std.proofs.Common.{◌≡◌, length, map, string_bytes, take}
use Rattle.std.specs.Prelude.{All}
use Rattle.pb_parts.specs.Parts.{IsFit}
use Rattle.pb_files.specs.Reading.{ReadsParts}
use Rattle.pb_files.proofs.parts.read_tasks.Given as goal

-- the reports of parts are those of the names so far
abbrev pub invariant-loop-place : goal.invariant-loop-place
invariant-loop-place g l = record {
  fit : All (λ part. IsFit part.heading) l.parts.items;
  counted : length l.with_part.items ≡ length l.parts.items;
  read : ReadsParts g.F.Files.reads l.format l.vars (map string_bytes (take l.place l.names.items)) l.parts.items l.initial.files l.files;
}
