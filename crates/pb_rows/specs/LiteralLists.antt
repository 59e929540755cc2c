-- Lists of literals kept as ranges of one list.
use Rattle.std.specs.Prelude.{◌≤◌, List, length, map, All, slice_range}
use Rattle.pb_inst.specs.Literal.{Literal}
use Rattle.pb_rows.specs.declared.literal_lists.LiteralSpan.{LiteralSpan}

unfoldable pub lists_of_spans : List Literal → List LiteralSpan → List (List Literal)
lists_of_spans lits spans = map (λ span. slice_range lits span.start span.end) spans

-- every span's literals are there
abbrev pub AreLiteralSpans : List Literal → List LiteralSpan → Type 0
AreLiteralSpans lits spans = All (λ span. (span.start ≤ span.end) × (span.end ≤ length lits)) spans
