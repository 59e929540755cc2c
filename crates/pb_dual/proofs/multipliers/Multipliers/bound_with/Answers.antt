use Rattle.std.proofs.Common.{◌≡◌, ℕ, ◌+◌, ◌*◌, ◌≤◌, None, ap, subst, sym, ◌∙◌, arith}
use Rattle.std.specs.Prelude.{ℤ}
use Rattle.std.specs.Vec.{vec_capacity}
use Rattle.std.proofs.lemmas.Int.{to_z-of_z}
use mir.Val.{to_z, of_z}
use Rattle.pb_inst.proofs.NumberWidth.{number_width}
use Rattle.pb_trail.specs.Trail.{value_on}
use Rattle.pb_dual.specs.ReducedCosts.{parts_on}
use Rattle.pb_dual.specs.Multipliers.{MultipliersState, bound_from, penalty, IsBelowCostsWith}
use Rattle.pb_dual.specs.Saturation.{counted_rows, counted_form}
use Rattle.pb_dual.proofs.TrailLemmas.{sum_on, sum-most, penalty-most, counted_with, bound_with_below}
use Rattle.pb_dual.proofs.multipliers.Multipliers.bound_with.Given.{Over}
use Rattle.pb_dual.proofs.multipliers.Multipliers.bound_with.Goals as goal

pub overflow_add-self-inside : goal.overflow_add-self-inside
overflow_add-self-inside g c =
    let penalty_most : penalty c.args.self.now c.args.lit ≤ 3 * g.C.Coefficient.origin = subst (λ (t : MultipliersState). penalty t c.args.lit ≤ 3 * g.C.Coefficient.origin) c.self.view_is (penalty-most c.self.invariant.0 c.args.lit) in
    let most = sum-most c.self.invariant.0 g.C.Coefficient.origin_small c.number.result (omega (arith, c.number.ensures, c.penalty.ensures)) in
    omega arith

pub bound_at-requires : goal.bound_at-requires
bound_at-requires g c =
    let penalty_most : penalty c.args.self.now c.args.lit ≤ 3 * g.C.Coefficient.origin = subst (λ (t : MultipliersState). penalty t c.args.lit ≤ 3 * g.C.Coefficient.origin) c.self.view_is (penalty-most c.self.invariant.0 c.args.lit) in
    let most = sum-most c.self.invariant.0 g.C.Coefficient.origin_small c.number.result (omega (arith, c.number.ensures, c.penalty.ensures)) in
    omega arith

-- the result is the bound of the trail with the literal
result_is : (g : Over) (c : goal.After-bound_at g) → to_z number_width (of_z number_width c.bound_at.result) ≡ bound_from c.args.self.now (parts_on c.args.self.now.origin c.args.self.now.scale c.args.self.now.counted c.args.self.now.multipliers c.args.self.now.trail + penalty c.args.self.now c.args.lit)
result_is g c =
    let s = c.args.self.now in
    let sum : c.self.inside.sum ≡ parts_on s.origin s.scale s.counted s.multipliers s.trail = sum_on c.self.invariant.0 ∙ ap (λ (t : MultipliersState). parts_on t.origin t.scale t.counted t.multipliers t.trail) c.self.view_is in
    let parts : c.self.inside.sum + c.number.result ≡ parts_on s.origin s.scale s.counted s.multipliers s.trail + penalty s c.args.lit = ap (λ (n : ℕ). n + c.number.result) sum ∙ ap (λ (n : ℕ). parts_on s.origin s.scale s.counted s.multipliers s.trail + n) (c.number.ensures ∙ c.penalty.ensures) in
    to_z-of_z number_width c.bound_at.result (record { sfits = c.bound_at.type_inv }) ∙ (c.bound_at.ensures ∙ ap (bound_from s) parts)

pub returns-clause-value : goal.returns-clause-value
returns-clause-value g c = result_is g c

pub returns-clause-bound : goal.returns-clause-bound
returns-clause-bound g c =
    let s = c.args.self.now in
    let l = c.args.lit in
    let inside = c.self.inside in
    let viewed : MultipliersState = record { form = inside.form; counted = counted_form inside.saturations.items inside.form; origin = g.C.Coefficient.origin; scale = inside.scale; share = inside.share; multipliers = inside.multipliers.items; trail = inside.lits.items; root = inside.root; changes = inside.changes.items; room = vec_capacity inside.changes } in
    let vars_are = ap (λ (t : MultipliersState). t.form.vars) c.self.view_is in
    let free : value_on inside.lits.items l.var ≡ None = subst (λ (t : MultipliersState). value_on t.trail l.var ≡ None) (sym c.self.view_is) c.requires.no_value in
    let below = bound_with_below viewed l (counted_rows inside.saturations.items inside.form.rows) (counted_with c.self.invariant.0 c.self.invariant.1 c.facts.ensures.normal (vec_capacity inside.changes)) c.self.invariant.0.scale_from_one (omega (arith, c.var-var.ensures.value, c.var-var.ensures.in_range.0)) (omega (arith, c.requires.variable)) free in
    let holds : IsBelowCostsWith s.form s.trail l (bound_from s (parts_on s.origin s.scale s.counted s.multipliers s.trail + penalty s l)) = subst (λ (t : MultipliersState). IsBelowCostsWith t.form t.trail l (bound_from t (parts_on t.origin t.scale t.counted t.multipliers t.trail + penalty t l))) c.self.view_is below in
    subst (λ (z : ℤ). IsBelowCostsWith s.form s.trail l z) (sym (result_is g c)) holds
