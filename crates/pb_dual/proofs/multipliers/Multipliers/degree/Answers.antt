use Rattle.std.proofs.Common.{◌≡◌, ◌<◌, [], length, ap, sym, subst, ◌∙◌, arith}
use Rattle.std.proofs.lemmas.List.{get_or_read}
use Rattle.pb_normal.specs.NormalForm.{PositiveRow}
use Rattle.pb_rows.specs.Constraints.{row_at}
use Rattle.pb_dual.specs.Saturation.{Saturation, saturation_at}
use Rattle.pb_dual.specs.Multipliers.{MultipliersState}
use Rattle.pb_dual.proofs.SaturationLemmas.{counted-at}
use Rattle.pb_dual.proofs.multipliers.Multipliers.degree.Goals as goal

pub returns : goal.returns
returns g c =
    let s = c.self.inside in
    let ss = s.saturations.items in
    let rows = s.form.rows in
    let count = c.self.invariant.1.count in
    let row : c.args.row < length rows = subst (λ (m : MultipliersState). c.args.row < length m.form.rows) (sym c.self.view_is) c.requires in
    let at : c.index.result.now ≡ saturation_at ss c.args.row = get_or_read ss c.args.row c.index.result.now (omega (arith, row, count)) c.index.ensures (record { most = 0; degree = 0 }) in
    ap (λ (k : Saturation). k.degree) (c.behind-self.view_is ∙ at) ∙ (sym (ap (λ (r : PositiveRow). r.degree) (counted-at ss rows c.args.row (record { terms = []; degree = 0 }) count row)) ∙ ap (λ (m : MultipliersState). (row_at m.counted.rows c.args.row).degree) c.self.view_is)
