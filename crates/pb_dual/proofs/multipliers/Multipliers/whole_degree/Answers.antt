use Rattle.std.proofs.Common.{◌≡◌, ◌<◌, [], length, ap, sym, subst, ◌∙◌}
use Rattle.std.specs.Prelude.{IsSomeAnd}
use Rattle.std.proofs.lemmas.Option.{slice_get-get_or}
use Rattle.pb_normal.specs.NormalForm.{PositiveRow}
use Rattle.pb_rows.specs.Constraints.{row_at}
use Rattle.pb_dual.specs.Multipliers.{MultipliersState}
use Rattle.pb_dual.proofs.multipliers.Multipliers.whole_degree.Goals as goal

pub returns : goal.returns
returns g c =
    let form = c.self.inside.form in
    let row : c.args.row < length form.rows = subst (λ (m : MultipliersState). c.args.row < length m.form.rows) (sym c.self.view_is) c.requires in
    let told : (row_at form.rows c.args.row).degree ≡ c.degree.result = subst (λ found. IsSomeAnd found (λ (r : PositiveRow). r.degree ≡ c.degree.result)) (slice_get-get_or form.rows c.args.row (record { terms = []; degree = 0 }) row) c.degree.ensures in
    sym told ∙ ap (λ (m : MultipliersState). (row_at m.form.rows c.args.row).degree) c.self.view_is
