use Rattle.std.proofs.Common.{◌≡◌, ℕ, ◌<◌, List, Bool, length, get_or, set, take, ap, sym, subst, ◌∙◌, arith, get_or-set_same, set-set}
use Rattle.std.proofs.lemmas.List.{get_or_read, set-get_or}
use Rattle.std.specs.Vec.{vec_capacity}
use Rattle.pb_normal.specs.NormalForm.{PositiveRow, MeetsRow}
use Rattle.pb_rows.specs.Constraints.{row_at}
use Rattle.pb_trail.specs.Completion.{IsCompletion}
use Rattle.pb_dual.specs.Saturation.{counted_row, counted_form, IsWithinRow}
use Rattle.pb_dual.specs.Multipliers.{MultipliersState, IsWithinShare}
use Rattle.pb_dual.proofs.SaturationLemmas.{counted-set}
use Rattle.pb_dual.proofs.RecountLemmas.{saturations-set, kept-recounted}
use Rattle.pb_dual.proofs.multipliers.Multipliers.count.Goals as goal

pub invariant_of-self : goal.invariant_of-self
invariant_of-self g c =
    let s = c.self-2.inside in
    let now = c.args.self.now in
    let row = c.args.row in
    let viewed : MultipliersState = record { form = s.form; counted = counted_form s.saturations.items s.form; origin = g.C.Coefficient.origin; scale = s.scale; share = s.share; multipliers = s.multipliers.items; trail = s.lits.items; root = s.root; changes = s.changes.items; room = vec_capacity s.changes } in
    let is : viewed ≡ record now { multipliers = set now.multipliers row c.of.result } = c.self-2.view_is ∙ c.set.ensures in
    let short : row < length now.multipliers = omega (arith, c.requires.row, c.self.invariant.0.one_each, ap (λ (m : MultipliersState). length m.multipliers) c.self.view_is, ap (λ (m : MultipliersState). length m.form.rows) c.self.view_is) in
    let none : get_or s.multipliers.items row 0 ≡ 0 = ap (λ (m : MultipliersState). get_or m.multipliers row 0) is ∙ (get_or-set_same now.multipliers row c.of.result 0 short ∙ c.of.ensures) in
    let exists : row < length s.form.rows = subst (λ (m : MultipliersState). row < length m.form.rows) (sym is) c.requires.row in
    let within : IsWithinRow (row_at s.form.rows row) c.args.saturation = subst (λ (m : MultipliersState). IsWithinRow (row_at m.form.rows row) c.args.saturation) (sym is) c.requires.within in
    let met : (a : List Bool) → IsCompletion s.form.rows (take s.root s.lits.items) a → MeetsRow a (counted_row c.args.saturation (row_at s.form.rows row)) = subst (λ (m : MultipliersState). (a : List Bool) → IsCompletion m.form.rows (take m.root m.trail) a → MeetsRow a (counted_row c.args.saturation (row_at m.form.rows row))) (sym is) c.requires.met in
    let new = saturations-set s.form s.saturations.items s.root s.lits.items row c.args.saturation c.self-2.invariant.1 exists within met in
    (kept-recounted c.self-2.invariant.0 c.self-2.invariant.1 row c.args.saturation exists none new, new)

pub set-requires-2-clause-within : goal.set-requires-2-clause-within
set-requires-2-clause-within g c =
    let s = c.self-2.inside in
    let now = c.args.self.now in
    let row = c.args.row in
    let viewed : MultipliersState = record { form = s.form; counted = counted_form s.saturations.items s.form; origin = g.C.Coefficient.origin; scale = s.scale; share = s.share; multipliers = s.multipliers.items; trail = s.lits.items; root = s.root; changes = s.changes.items; room = vec_capacity s.changes } in
    let is : viewed ≡ record now { multipliers = set now.multipliers row c.of.result } = c.self-2.view_is ∙ c.set.ensures in
    let ys = c.self.inside.multipliers.items in
    let short : row < length ys = omega (arith, c.requires.row, c.self.invariant.0.one_each, ap (λ (m : MultipliersState). length m.form.rows) c.self.view_is) in
    let read : c.index-multiplier.result.now ≡ get_or ys row 0 = get_or_read ys row c.index-multiplier.result.now short c.index-multiplier.ensures 0 in
    let held : IsWithinShare c.self.inside.form c.self.inside.share row (get_or ys row 0) = c.self.invariant.0.each_within row (omega (arith, short, c.self.invariant.0.count)) in
    let told : IsWithinShare now.form now.share row c.index-multiplier.result.now = subst (λ (m : MultipliersState). IsWithinShare m.form m.share row c.index-multiplier.result.now) c.self.view_is (subst (IsWithinShare c.self.inside.form c.self.inside.share row) (sym read) held) in
    subst (λ (m : MultipliersState). IsWithinShare m.form m.share row c.index-multiplier.result.now) (sym is) told

pub returns : goal.returns
returns g c =
    let s = c.self-2.inside in
    let now = c.args.self.now in
    let row = c.args.row in
    let k = c.args.saturation in
    let n = c.index-multiplier.result.now in
    let viewed : MultipliersState = record { form = s.form; counted = counted_form s.saturations.items s.form; origin = g.C.Coefficient.origin; scale = s.scale; share = s.share; multipliers = s.multipliers.items; trail = s.lits.items; root = s.root; changes = s.changes.items; room = vec_capacity s.changes } in
    let is : viewed ≡ record now { multipliers = set now.multipliers row c.of.result } = c.self-2.view_is ∙ c.set.ensures in
    let exists : row < length s.form.rows = subst (λ (m : MultipliersState). row < length m.form.rows) (sym is) c.requires.row in
    let ys = c.self.inside.multipliers.items in
    let short : row < length ys = omega (arith, c.requires.row, c.self.invariant.0.one_each, ap (λ (m : MultipliersState). length m.form.rows) c.self.view_is) in
    let read : n ≡ get_or now.multipliers row 0 = get_or_read ys row n short c.index-multiplier.ensures 0 ∙ ap (λ (m : MultipliersState). get_or m.multipliers row 0) c.self.view_is in
    let rows = counted-set s.saturations.items s.form.rows row k c.self-2.invariant.1.count exists in
    let back : set (set now.multipliers row c.of.result) row n ≡ now.multipliers = set-set now.multipliers row c.of.result n ∙ (ap (set now.multipliers row) read ∙ set-get_or now.multipliers row 0) in
    let F : MultipliersState → MultipliersState = λ m. record m { counted = record m.counted { rows = set m.counted.rows row (counted_row k (row_at m.form.rows row)) }; multipliers = set m.multipliers row n } in
    c.set-2.ensures
    ∙ (ap (λ (rs : List PositiveRow). record viewed { counted = record viewed.counted { rows = rs }; multipliers = set viewed.multipliers row n }) rows
    ∙ (ap F is
    ∙ ap (λ (zs : List ℕ). record now { counted = record now.counted { rows = set now.counted.rows row (counted_row k (row_at now.form.rows row)) }; multipliers = zs }) back))
