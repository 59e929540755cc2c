use Rattle.std.proofs.Common.{◌≡◌, ℕ, ◌<◌, ◌≤◌, List, [], length, set, All, ap, sym, subst, ◌∙◌, arith, ltb-false}
use Rattle.std.proofs.lemmas.List.{get_or_read, set-get_or}
use Rattle.std.specs.Vec.{vec_capacity}
use Rattle.pb_normal.specs.declared.terms.PositiveTerm.{PositiveTerm}
use Rattle.pb_normal.specs.NormalForm.{PositiveRow, MeetsRow}
use Rattle.pb_rows.specs.Constraints.{row_at}
use Rattle.pb_dual.specs.Saturation.{Saturation, counted_row, counted_rows, counted_form, saturation_at, whole}
use Rattle.pb_dual.specs.Multipliers.{MultipliersState}
use Rattle.pb_dual.proofs.SaturationLemmas.{counted-at, counted-whole}
use Rattle.pb_dual.proofs.multipliers.Multipliers.release_row.Goals as goal

pub count-requires-clause-met : goal.count-requires-clause-met
count-requires-clause-met g c = λ a completes.
    let now = c.args.self.now in
    let row = c.args.row in
    let d : PositiveRow = record { terms = []; degree = 0 } in
    let exists : row < length c.self.inside.form.rows = subst (λ (m : MultipliersState). row < length m.form.rows) (sym c.self.view_is) c.requires in
    let clipped : All (λ (t : PositiveTerm). t.coef ≤ (row_at now.form.rows row).degree) (row_at now.form.rows row).terms = subst (λ (m : MultipliersState). All (λ (t : PositiveTerm). t.coef ≤ (row_at m.form.rows row).degree) (row_at m.form.rows row).terms) c.self.view_is (c.facts.ensures.normal.shape.rows row d exists).clipped in
    let same : counted_row (record { most = c.whole_degree-degree.result; degree = c.whole_degree-degree.result }) (row_at now.form.rows row) ≡ row_at now.form.rows row = ap (λ (n : ℕ). counted_row (record { most = n; degree = n }) (row_at now.form.rows row)) c.whole_degree-degree.ensures ∙ counted-whole (row_at now.form.rows row) clipped in
    subst (MeetsRow a) (sym same) (completes.meets_rows row d c.requires)

pub returns-then-is_below : goal.returns-then-is_below
returns-then-is_below g c =
    let now = c.args.self.now in
    let row = c.args.row in
    let d : PositiveRow = record { terms = []; degree = 0 } in
    let exists : row < length c.self.inside.form.rows = subst (λ (m : MultipliersState). row < length m.form.rows) (sym c.self.view_is) c.requires in
    let clipped : All (λ (t : PositiveTerm). t.coef ≤ (row_at now.form.rows row).degree) (row_at now.form.rows row).terms = subst (λ (m : MultipliersState). All (λ (t : PositiveTerm). t.coef ≤ (row_at m.form.rows row).degree) (row_at m.form.rows row).terms) c.self.view_is (c.facts.ensures.normal.shape.rows row d exists).clipped in
    let same : counted_row (record { most = c.whole_degree-degree.result; degree = c.whole_degree-degree.result }) (row_at now.form.rows row) ≡ row_at now.form.rows row = ap (λ (n : ℕ). counted_row (record { most = n; degree = n }) (row_at now.form.rows row)) c.whole_degree-degree.ensures ∙ counted-whole (row_at now.form.rows row) clipped in
    c.count.ensures ∙ ap (λ (r : PositiveRow). record now { counted = record now.counted { rows = set now.counted.rows row r } }) same

pub returns-else-is_below : goal.returns-else-is_below
returns-else-is_below g c =
    let s = c.self.inside in
    let ss = s.saturations.items in
    let rows = s.form.rows in
    let row = c.args.row in
    let d : PositiveRow = record { terms = []; degree = 0 } in
    let count = c.self.invariant.1.count in
    let exists : row < length rows = subst (λ (m : MultipliersState). row < length m.form.rows) (sym c.self.view_is) c.requires in
    let within = c.self.invariant.1.within row exists in
    let at : c.index.result.now ≡ saturation_at ss row = get_or_read ss row c.index.result.now (omega (arith, exists, count)) c.index.ensures (record { most = 0; degree = 0 }) in
    let most : c.behind-self.inside.most ≡ (saturation_at ss row).most = ap (λ (k : Saturation). k.most) (c.behind-self.view_is ∙ at) in
    let degree : c.whole_degree-degree.result ≡ (row_at rows row).degree = c.whole_degree-degree.ensures ∙ sym (ap (λ (m : MultipliersState). (row_at m.form.rows row).degree) c.self.view_is) in
    let over : c.whole_degree-degree.result ≤ c.behind-self.inside.most = ltb-false c.behind-self.inside.most c.whole_degree-degree.result (sym c.is_below.ensures ∙ c.if-is_below.false) in
    let first : (saturation_at ss row).most ≡ (row_at rows row).degree = omega (arith, within.clipped, within.less) in
    let second : (saturation_at ss row).degree ≡ (row_at rows row).degree = omega (arith, within.clipped, within.less) in
    let same : saturation_at ss row ≡ whole (row_at rows row) = ap (λ (n : ℕ). record { most = n; degree = (saturation_at ss row).degree }) first ∙ ap (λ (n : ℕ). record { most = (row_at rows row).degree; degree = n }) second in
    let clipped = (c.facts.ensures.normal.shape.rows row d exists).clipped in
    let stays : row_at (counted_rows ss rows) row ≡ row_at rows row = counted-at ss rows row d count exists ∙ (ap (λ (k : Saturation). counted_row k (row_at rows row)) same ∙ counted-whole (row_at rows row) clipped) in
    let put : set (counted_rows ss rows) row (row_at rows row) ≡ counted_rows ss rows = ap (set (counted_rows ss rows) row) (sym stays) ∙ set-get_or (counted_rows ss rows) row d in
    let viewed : MultipliersState = record { form = s.form; counted = counted_form ss s.form; origin = g.C.Coefficient.origin; scale = s.scale; share = s.share; multipliers = s.multipliers.items; trail = s.lits.items; root = s.root; changes = s.changes.items; room = vec_capacity s.changes } in
    let F : MultipliersState → MultipliersState = λ m. record m { counted = record m.counted { rows = set m.counted.rows row (row_at m.form.rows row) } } in
    let inner : viewed ≡ F viewed = ap (λ (rs : List PositiveRow). record viewed { counted = record viewed.counted { rows = rs } }) (sym put) in
    subst (λ (m : MultipliersState). m ≡ F m) c.self.view_is inner
