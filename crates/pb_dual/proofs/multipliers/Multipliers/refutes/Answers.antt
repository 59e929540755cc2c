use Rattle.std.proofs.Common.{◌≡◌, ◌*◌, ◌<◌, ap, subst, sym, ◌∙◌, ltb-true}
use Rattle.std.specs.Vec.{vec_capacity}
use Rattle.pb_normal.specs.NormalForm.{total_coefficient}
use Rattle.pb_trail.specs.Completion.{HasNoCompletion}
use Rattle.pb_dual.specs.Multipliers.{MultipliersState, promised_above}
use Rattle.pb_dual.specs.Saturation.{counted_rows, counted_form}
use Rattle.pb_dual.proofs.TrailLemmas.{counted_with, none_below}
use Rattle.pb_dual.proofs.multipliers.Multipliers.refutes.Goals as goal

pub returns-clause-no_completion : goal.returns-clause-no_completion
returns-clause-no_completion g c told =
    let s = c.args.self.now in
    let inside = c.self.inside in
    let viewed : MultipliersState = record { form = inside.form; counted = counted_form inside.saturations.items inside.form; origin = g.C.Coefficient.origin; scale = inside.scale; share = inside.share; multipliers = inside.multipliers.items; trail = inside.lits.items; root = inside.root; changes = inside.changes.items; room = vec_capacity inside.changes } in
    let most : c.number.result ≡ inside.scale * total_coefficient inside.form.objective = c.number.ensures ∙ (c.mul-most.ensures ∙ ap (λ n. inside.scale * n) c.self.invariant.0.total_is) in
    let above : c.above.result ≡ promised_above viewed = c.above.ensures ∙ ap promised_above (sym c.self.view_is) in
    let over : inside.scale * total_coefficient inside.form.objective < promised_above viewed = subst (λ n. n < promised_above viewed) most (subst (λ n. c.number.result < n) above (ltb-true c.number.result c.above.result told)) in
    let none : HasNoCompletion viewed.form.rows viewed.trail = none_below viewed (counted_rows inside.saturations.items inside.form.rows) (counted_with c.self.invariant.0 c.self.invariant.1 c.facts.ensures.normal (vec_capacity inside.changes)) over in
    subst (λ (t : MultipliersState). HasNoCompletion t.form.rows t.trail) c.self.view_is none
