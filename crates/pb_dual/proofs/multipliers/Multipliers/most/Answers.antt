use Rattle.std.proofs.Common.{◌≡◌, ℕ, ◌<◌, [], length, ap, sym, subst, ◌∙◌, arith}
use Rattle.std.proofs.lemmas.List.{get_or_read}
use Rattle.pb_normal.specs.NormalForm.{PositiveRow}
use Rattle.pb_rows.specs.Constraints.{row_at}
use Rattle.pb_dual.specs.Saturation.{Saturation, saturation_at, capped}
use Rattle.pb_dual.specs.Multipliers.{MultipliersState}
use Rattle.pb_dual.proofs.SaturationLemmas.{counted-at}
use Rattle.pb_dual.proofs.multipliers.Multipliers.most.Goals as goal

pub returns : goal.returns
returns g c =
    let s = c.self.inside in
    let ss = s.saturations.items in
    let rows = s.form.rows in
    let count = c.self.invariant.1.count in
    let row : c.args.row < length rows = subst (λ (m : MultipliersState). c.args.row < length m.form.rows) (sym c.self.view_is) c.requires in
    let at : c.index.result.now ≡ saturation_at ss c.args.row = get_or_read ss c.args.row c.index.result.now (omega (arith, row, count)) c.index.ensures (record { most = 0; degree = 0 }) in
    let most : c.behind-self.inside.most ≡ (saturation_at ss c.args.row).most = ap (λ (k : Saturation). k.most) (c.behind-self.view_is ∙ at) in
    let terms = ap (λ (r : PositiveRow). r.terms) (counted-at ss rows c.args.row (record { terms = []; degree = 0 }) count row) in
    subst (λ (m : MultipliersState). (row_at m.counted.rows c.args.row).terms ≡ capped c.behind-self.inside.most (row_at m.form.rows c.args.row).terms) c.self.view_is (terms ∙ ap (λ (n : ℕ). capped n (row_at rows c.args.row).terms) (sym most))
