use Rattle.std.proofs.Common.{◌≡◌, ◌++◌, ◌+◌, ◌≤◌, List, ℕ, length, map}
use Rattle.pb_report.specs.Lines.{rows, words}
use Rattle.pb_report.specs.declared.statuses.Status.{Status}
use Rattle.pb_report.specs.Draft.{Follow, IsDraft, fresh_draft}
use Rattle.pb_report.proofs.reading.read_report.Given as goal

-- the lines so far were taken, and the others are left
abbrev pub invariant-loop-line : goal.invariant-loop-line
invariant-loop-line l = record {
  counted : l.number + length l.line-iterator ≤ length l.fn.text;
  same_length : length l.draft.values.given ≡ length l.draft.values.seen;
  same_format : l.draft.values.format ≡ l.fn.format;
  so_far : (seen : List (List (List ℕ))) × (seen ++ map words l.line-iterator ≡ rows l.fn.text) × IsDraft l.fn.vars seen l.draft;
  accepted : (status : Status) → Follow status (rows l.fn.text) (fresh_draft l.fn.format l.fn.vars) → Follow status (map words l.line-iterator) l.draft;
}
