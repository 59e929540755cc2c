use Rattle.std.proofs.Common.{◌≡◌, ap, subst, sym, ◌∙◌, arith}
use Rattle.std.specs.Prelude.{ℤ}
use Rattle.std.specs.Vec.{vec_capacity}
use Rattle.std.proofs.lemmas.Int.{to_z-of_z}
use mir.Val.{to_z, of_z}
use Rattle.pb_inst.proofs.NumberWidth.{number_width}
use Rattle.pb_dual.specs.ReducedCosts.{parts_on}
use Rattle.pb_dual.specs.Multipliers.{MultipliersState, bound_from, dual_bound, IsBelowCosts}
use Rattle.pb_dual.specs.Saturation.{counted_rows, counted_form}
use Rattle.pb_dual.proofs.TrailLemmas.{sum_on, sum-most, counted_with, bound_below}
use Rattle.pb_dual.proofs.multipliers.Multipliers.bound.Given.{Over}
use Rattle.pb_dual.proofs.multipliers.Multipliers.bound.Goals as goal

pub bound_at-requires : goal.bound_at-requires
bound_at-requires g c = omega (arith, sum-most c.self.invariant.0 g.C.Coefficient.origin_small 0 (omega arith))

-- the result is the bound
result_is : (g : Over) (c : goal.After-bound_at g) → to_z number_width (of_z number_width c.bound_at.result) ≡ dual_bound c.args.self.now
result_is g c =
    let s = c.args.self.now in
    let sum : c.self.inside.sum ≡ parts_on s.origin s.scale s.counted s.multipliers s.trail = sum_on c.self.invariant.0 ∙ ap (λ (t : MultipliersState). parts_on t.origin t.scale t.counted t.multipliers t.trail) c.self.view_is in
    to_z-of_z number_width c.bound_at.result (record { sfits = c.bound_at.type_inv }) ∙ (c.bound_at.ensures ∙ ap (bound_from s) sum)

pub returns-clause-value : goal.returns-clause-value
returns-clause-value g c = result_is g c

pub returns-clause-bound : goal.returns-clause-bound
returns-clause-bound g c =
    let s = c.args.self.now in
    let inside = c.self.inside in
    let viewed : MultipliersState = record { form = inside.form; counted = counted_form inside.saturations.items inside.form; origin = g.C.Coefficient.origin; scale = inside.scale; share = inside.share; multipliers = inside.multipliers.items; trail = inside.lits.items; root = inside.root; changes = inside.changes.items; room = vec_capacity inside.changes } in
    let below = bound_below viewed (counted_rows inside.saturations.items inside.form.rows) (counted_with c.self.invariant.0 c.self.invariant.1 c.facts.ensures.normal (vec_capacity inside.changes)) c.self.invariant.0.scale_from_one in
    let holds : IsBelowCosts s.form s.trail (dual_bound s) = subst (λ (t : MultipliersState). IsBelowCosts t.form t.trail (dual_bound t)) c.self.view_is below in
    subst (λ (z : ℤ). IsBelowCosts s.form s.trail z) (sym (result_is g c)) holds
