use Rattle.std.proofs.Common.{◌≡◌, length, map, string_bytes, take}
use Rattle.pb_files.specs.Reading.{ReadsReports}
use Rattle.pb_files.proofs.reports.read_reports.Given as goal

-- the reports are those of the names so far
abbrev pub invariant-loop-place : goal.invariant-loop-place
invariant-loop-place g l = record {
  counted : length l.with_report.items ≡ length l.reports.items;
  read : ReadsReports g.F.Files.reads l.format l.vars (map string_bytes (take l.place l.names.items)) l.reports.items l.initial.files l.files;
}
