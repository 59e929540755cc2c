use Rattle.std.proofs.Common.{◌≡◌, ℕ, ◌+◌, ◌<◌, [], ◌++◌, List, length, sym, ap, subst, ◌∙◌, arith}
use Rattle.std.specs.Prelude.{IsSomeAnd}
use Rattle.std.proofs.lemmas.List.{map-id}
use Rattle.std.proofs.lemmas.Option.{slice_get-get_or}
use Rattle.pb_normal.specs.declared.terms.PositiveTerm.{PositiveTerm}
use Rattle.pb_normal.specs.NormalForm.{PositiveRow}
use Rattle.pb_rows.specs.Occurrences.{Entry}
use Rattle.pb_rows.specs.Constraints.{row_at}
use Rattle.pb_rows.specs.Index.{entries_from, entries_of_row}
use Rattle.pb_rows.proofs.EntryLemmas.{entries_from-next}
use Rattle.pb_rows.proofs.rows.entries_of.Goals as goal

pub loop-row-preserved : goal.loop-row-preserved
loop-row-preserved g c =
    let rows = c.args.form.now.rows in
    let row = c.loop-row.row in
    let terms = c.terms.result.now in
    let within : row < length rows = omega arith in
    let read : (row_at rows row).terms ≡ terms = subst (λ found. IsSomeAnd found (λ (r : PositiveRow). r.terms ≡ terms)) (slice_get-get_or rows row (record { terms = []; degree = 0 }) within) c.terms.ensures in
    c.in_ok-push_entries.ensures.entries
    ∙ (ap (λ (ts : List PositiveTerm). c.loop-row.entries.items ++ entries_of_row row ts) (map-id terms ∙ sym read)
    ∙ (ap (λ (es : List Entry). es ++ entries_of_row row (row_at rows row).terms) c.loop-row.invariant
    ∙ (ap (λ (number : ℕ). entries_from 0 rows row ++ entries_of_row number (row_at rows row).terms) (let same : row ≡ 0 + row = omega arith in same)
    ∙ sym (entries_from-next 0 rows row))))
