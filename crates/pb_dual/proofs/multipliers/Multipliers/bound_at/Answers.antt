use Rattle.std.proofs.Common.{◌≡◌, ℕ, ◌+◌, ◌-◌, ◌*◌, min, ap, sym, ◌∙◌, arith}
use Rattle.std.specs.Int.{div_ceil}
use Rattle.pb_dual.specs.Multipliers.{MultipliersState, bound_from}
use Rattle.pb_dual.proofs.SaturationLemmas.{counted-normal}
use Rattle.pb_dual.proofs.TrailLemmas.{promised_fits, bound_is}
use Rattle.pb_dual.proofs.multipliers.Multipliers.bound_at.Goals as goal

pub overflow_add-sum : goal.overflow_add-sum
overflow_add-sum g c = omega (arith, c.requires, c.number.ensures, c.self.invariant.0.degrees_are, promised_fits c.self.invariant.0, g.C.Coefficient.origin_small)

pub returns : goal.returns
returns g c =
    let inside = c.self.inside in
    let floor : c.floor.result ≡ inside.form.vars * g.C.Coefficient.origin = c.floor.ensures ∙ ap (λ (s : MultipliersState). s.form.vars * s.origin) (sym c.self.view_is) in
    let above : c.saturating_sub-above.result ≡ (c.args.sum + inside.degrees) - inside.form.vars * g.C.Coefficient.origin = c.saturating_sub-above.ensures ∙ (ap (λ (n : ℕ). (c.args.sum + n) - c.floor.result) c.number.ensures ∙ ap (λ (n : ℕ). (c.args.sum + inside.degrees) - n) floor) in
    let most : c.number-2.result ≡ inside.scale * inside.total = c.number-2.ensures ∙ c.mul-most.ensures in
    let scaled = c.fitting-scaled.ensures ∙ (c.min.ensures ∙ (ap (λ (n : ℕ). min n c.number-2.result) above ∙ ap (min ((c.args.sum + inside.degrees) - inside.form.vars * g.C.Coefficient.origin)) most)) in
    let up : c.number-3.result ≡ div_ceil (min ((c.args.sum + inside.degrees) - inside.form.vars * g.C.Coefficient.origin) (inside.scale * inside.total)) inside.scale = c.number-3.ensures ∙ (c.div_ceil.ensures ∙ ap (λ (n : ℕ). div_ceil n inside.scale) scaled) in
    (bound_is c.self.invariant.0 (counted-normal inside.form inside.saturations.items inside.root inside.lits.items c.base.ensures.normal c.self.invariant.1) c.base.result c.base.ensures.value c.args.sum c.number-3.result up).1 ∙ ap (λ (s : MultipliersState). bound_from s c.args.sum) c.self.view_is
